-- What one more symbol changes in what is counted of symbols.
use Rattle.std.proofs.Common.{◌≡◌, ℕ, ◌+◌, ◌-◌, ◌≤◌, Bool, true, false, cond, not, List, [], ◌∷◌, ◌++◌, Option, Some, None}
use Rattle.std.proofs.Common.{length, reverse, drop, refl, sym, ap, ap₂, ◌∙◌, arith, append-nil}
use Rattle.std.specs.List.{filter, last_or, after_last, prefix_len, suffix_len, count_by}
use Rattle.std.proofs.lemmas.List.{reverse-append, length-append, drop-append-le}
use Rattle.std.proofs.lemmas.List.Elements.{filter-append}
use Rattle.std.proofs.lemmas.List.Sums.{suffix_len-le-length, sum_by-append}
use Rattle.cwr_fields.specs.declared.codes.TransactionType.{TransactionType}
use Rattle.cwr_fields.specs.declared.codes.TransactionType.TheVariants.{Agreement, NewWork, RevisedWork, Acknowledgement}
use Rattle.cwr_shape.specs.declared.symbols.Symbol.{Symbol}
use Rattle.cwr_shape.specs.declared.symbols.Symbol.TheVariants.{Grh}
use Rattle.cwr_shape.specs.declared.tallies.Counts.{Counts}
use Rattle.cwr_shape.specs.Format.LastSymbols.{is_grh, latest, group_of}
use Rattle.cwr_shape.specs.Format.NextSymbols.{is_header_of, type_after, transactions_begun, open_type, open_group, after_header}
use Rattle.cwr_shape.specs.Format.NextSymbols.{counts_of}
use Rattle.cwr_shape.specs.Steps.Counting.{counts_with, counts_with_group, counts_with_header, counts_with_other}

pub last_or-snoc : (o : Option Symbol) (xs : List Symbol) (s : Symbol) → last_or o (xs ++ s ∷ []) ≡ Some s
last_or-snoc o [] s = refl
last_or-snoc o (x ∷ xs) s = last_or-snoc (Some x) xs s

-- ---- what stands after the last symbol that passes a test

-- how many symbols at the end fail it
abbrev at_end : (Symbol → Bool) → List Symbol → ℕ
at_end test xs = suffix_len (λ s. not (test s)) xs

at_end_by : (test : Symbol → Bool) (xs : List Symbol) (s : Symbol) (b : Bool) → test s ≡ b
    → prefix_len (λ t. not (test t)) (s ∷ reverse xs) ≡ cond b 0 (1 + at_end test xs)
at_end_by test xs s true e = rw e refl
at_end_by test xs s false e = rw e refl

at_end-snoc : (test : Symbol → Bool) (xs : List Symbol) (s : Symbol)
    → at_end test (xs ++ s ∷ []) ≡ cond (test s) 0 (1 + at_end test xs)
at_end-snoc test xs s = ap (prefix_len (λ t. not (test t))) (reverse-append xs (s ∷ [])) ∙ at_end_by test xs s (test s) refl

after_last_by : (test : Symbol → Bool) (xs : List Symbol) (s : Symbol) (b : Bool)
    → at_end test (xs ++ s ∷ []) ≡ cond b 0 (1 + at_end test xs)
    → after_last test (xs ++ s ∷ []) ≡ cond b [] (after_last test xs ++ s ∷ [])
after_last_by test xs s false e =
    let few : at_end test xs ≤ length xs = suffix_len-le-length (λ t. not (test t)) xs in
    let same : length (xs ++ s ∷ []) - at_end test (xs ++ s ∷ []) ≡ length xs - at_end test xs =
    omega (arith, e, few, length-append xs (s ∷ [])) in
    ap (λ (n : ℕ). drop n (xs ++ s ∷ [])) same ∙ drop-append-le (length xs - at_end test xs) xs (s ∷ []) (omega arith)
after_last_by test xs s true e =
    let all : length (xs ++ s ∷ []) - at_end test (xs ++ s ∷ []) ≡ length (xs ++ s ∷ []) = omega (arith, e) in
    ap (λ (n : ℕ). drop n (xs ++ s ∷ [])) all ∙ drop_whole (xs ++ s ∷ [])
  where
    drop_whole : (ys : List Symbol) → drop (length ys) ys ≡ []
    drop_whole [] = refl
    drop_whole (y ∷ ys) = drop_whole ys

pub after_last-snoc : (test : Symbol → Bool) (xs : List Symbol) (s : Symbol)
    → after_last test (xs ++ s ∷ []) ≡ cond (test s) [] (after_last test xs ++ s ∷ [])
after_last-snoc test xs s = after_last_by test xs s (test s) (at_end-snoc test xs s)

-- ---- the last symbol that passes a test

filter_one : (test : Symbol → Bool) (s : Symbol) (b : Bool) → test s ≡ b → filter test (s ∷ []) ≡ cond b (s ∷ []) []
filter_one test s true e = rw e refl
filter_one test s false e = rw e refl

latest_by : (test : Symbol → Bool) (xs : List Symbol) (s : Symbol) (b : Bool) → test s ≡ b
    → last_or None (filter test xs ++ cond b (s ∷ []) []) ≡ cond b (Some s) (latest test xs)
latest_by test xs s true e = last_or-snoc None (filter test xs) s
latest_by test xs s false e = ap (last_or None) (append-nil (filter test xs))

pub latest-snoc : (test : Symbol → Bool) (xs : List Symbol) (s : Symbol)
    → latest test (xs ++ s ∷ []) ≡ cond (test s) (Some s) (latest test xs)
latest-snoc test xs s =
    ap (last_or None)
    (filter-append test xs (s ∷ []) ∙ ap (λ (ys : List Symbol). filter test xs ++ ys) (filter_one test s (test s) refl))
    ∙ latest_by test xs s (test s) refl

-- ---- how many pass a test

count_one : (test : Symbol → Bool) (s : Symbol) (b : Bool) → test s ≡ b → count_by test (s ∷ []) ≡ cond b 1 0
count_one test s true e = rw e refl
count_one test s false e = rw e refl

pub count_by-snoc : (test : Symbol → Bool) (xs : List Symbol) (s : Symbol)
    → count_by test (xs ++ s ∷ []) ≡ count_by test xs + cond (test s) 1 0
count_by-snoc test xs s =
    sum_by-append (λ x. cond (test x) 1 0) xs (s ∷ []) ∙ ap (λ (n : ℕ). count_by test xs + n) (count_one test s (test s) refl)

-- ---- the open group's type

type_more : (s : Symbol) (g : Option Symbol) → group_of (cond (is_grh s) (Some s) g) ≡ type_after (group_of g) s
type_more (Grh t) g = refl
type_more s g = refl

pub open_type-snoc : (xs : List Symbol) (s : Symbol) → open_type (xs ++ s ∷ []) ≡ type_after (open_type xs) s
open_type-snoc xs s = ap group_of (latest-snoc is_grh xs s) ∙ type_more s (latest is_grh xs)

-- the type after some symbols
abbrev pub types_after : TransactionType → List Symbol → TransactionType
types_after ty [] = ty
types_after ty (s ∷ xs) = types_after (type_after ty s) xs

latest_type : (o : Option Symbol) (xs : List Symbol) → group_of (last_or o (filter is_grh xs)) ≡ types_after (group_of o) xs
latest_type o [] = refl
latest_type o (Grh t ∷ xs) = latest_type (Some (Grh t)) xs
latest_type o (s ∷ xs) = latest_type o xs

pub open_type_after : (xs : List Symbol) → open_type xs ≡ types_after Acknowledgement xs
open_type_after xs = latest_type None xs

begun_one : (ty : TransactionType) (xs : List Symbol) (s : Symbol)
    → transactions_begun ty (xs ++ s ∷ []) ≡ transactions_begun ty xs + cond (is_header_of (types_after ty xs) s) 1 0
begun_one ty [] s = omega arith
begun_one ty (x ∷ xs) s = omega (arith, begun_one (type_after ty x) xs s)

begun-snoc : (xs : List Symbol) (s : Symbol) → transactions_begun Acknowledgement (xs ++ s ∷ [])
    ≡ transactions_begun Acknowledgement xs + cond (is_header_of (open_type xs) s) 1 0
begun-snoc xs s =
    begun_one Acknowledgement xs s ∙ ap
    (λ (ty : TransactionType). transactions_begun Acknowledgement xs + cond (is_header_of ty s) 1 0) (sym (open_type_after xs))

-- ---- all that is counted

abbrev made : ℕ → ℕ → ℕ → ℕ → ℕ → ℕ → Counts
made a b c d e f = record { records = a; groups = b; transactions = c; in_group = d; after_grh = e; after_header = f }

same_counts : (a b : Counts) → a.records ≡ b.records → a.groups ≡ b.groups → a.transactions ≡ b.transactions
    → a.in_group ≡ b.in_group → a.after_grh ≡ b.after_grh → a.after_header ≡ b.after_header → a ≡ b
same_counts a b e f g h k l =
    ap (λ (n : ℕ). made n a.groups a.transactions a.in_group a.after_grh a.after_header) e
    ∙ ap (λ (n : ℕ). made b.records n a.transactions a.in_group a.after_grh a.after_header) f
    ∙ ap (λ (n : ℕ). made b.records b.groups n a.in_group a.after_grh a.after_header) g
    ∙ ap (λ (n : ℕ). made b.records b.groups b.transactions n a.after_grh a.after_header) h
    ∙ ap (λ (n : ℕ). made b.records b.groups b.transactions b.in_group n a.after_header) k
    ∙ ap (made b.records b.groups b.transactions b.in_group b.after_grh) l

-- the group's counts, by whether the symbol is a GRH
open_group-snoc : (xs : List Symbol) (s : Symbol) (b : Bool) → is_grh s ≡ b
    → open_group (xs ++ s ∷ []) ≡ cond b [] (open_group xs ++ s ∷ [])
open_group-snoc xs s b e = after_last-snoc is_grh xs s ∙ ap (λ (c : Bool). cond c [] (open_group xs ++ s ∷ [])) e

length-snoc : (xs : List Symbol) (s : Symbol) → length (xs ++ s ∷ []) ≡ length xs + 1
length-snoc xs s = length-append xs (s ∷ [])

-- a GRH
with_group : (xs : List Symbol) (t : TransactionType) → counts_with_group (counts_of xs) ≡ counts_of (xs ++ Grh t ∷ [])
with_group xs t =
    let empty : open_group (xs ++ Grh t ∷ []) ≡ [] = open_group-snoc xs (Grh t) true refl in
    same_counts (counts_with_group (counts_of xs)) (counts_of (xs ++ Grh t ∷ []))
    (sym (length-snoc xs (Grh t)))
    (sym (count_by-snoc is_grh xs (Grh t)))
    (omega (arith, begun-snoc xs (Grh t), no_header (open_type xs) t))
    (sym (ap (count_by (is_header_of (open_type (xs ++ Grh t ∷ [])))) empty))
    (sym (ap length empty))
    (sym (ap (λ (ys : List Symbol). length (after_last (is_header_of (open_type (xs ++ Grh t ∷ []))) ys)) empty))
  where
    no_header : (ty t : TransactionType) → ◌≡◌ {A = ℕ} (cond (is_header_of ty (Grh t)) 1 0) 0
    no_header Agreement t = refl
    no_header NewWork t = refl
    no_header RevisedWork t = refl
    no_header Acknowledgement t = refl

-- any other symbol leaves the type of the group
with_inside : (xs : List Symbol) (s : Symbol) (b : Bool) → is_grh s ≡ false → type_after (open_type xs) s ≡ open_type xs
    → is_header_of (open_type xs) s ≡ b
    → cond b (counts_with_header (counts_of xs)) (counts_with_other (counts_of xs)) ≡ counts_of (xs ++ s ∷ [])
with_inside xs s b g same h =
    let ty : open_type (xs ++ s ∷ []) ≡ open_type xs = open_type-snoc xs s ∙ same in
    let more : open_group (xs ++ s ∷ []) ≡ open_group xs ++ s ∷ [] = open_group-snoc xs s false g in
    let groups : count_by is_grh (xs ++ s ∷ []) ≡ count_by is_grh xs =
    count_by-snoc is_grh xs s ∙ ap (λ (c : Bool). count_by is_grh xs + cond c 1 0) g ∙ plus_none (count_by is_grh xs) in
    let begins : transactions_begun Acknowledgement (xs ++ s ∷ []) ≡ transactions_begun Acknowledgement xs + cond b 1 0 =
    begun-snoc xs s ∙ ap (λ (c : Bool). transactions_begun Acknowledgement xs + cond c 1 0) h in
    let in_group : count_by (is_header_of (open_type (xs ++ s ∷ []))) (open_group (xs ++ s ∷ []))
    ≡ count_by (is_header_of (open_type xs)) (open_group xs) + cond b 1 0
    = ap₂ (λ (t : TransactionType) (ys : List Symbol). count_by (is_header_of t) ys) ty more
    ∙ count_by-snoc (is_header_of (open_type xs)) (open_group xs) s
    ∙ ap (λ (c : Bool). count_by (is_header_of (open_type xs)) (open_group xs) + cond c 1 0) h in
    let after : length (open_group (xs ++ s ∷ [])) ≡ length (open_group xs) + 1 =
    ap length more ∙ length-snoc (open_group xs) s in
    let header : after_header (xs ++ s ∷ []) ≡ cond b [] (after_header xs ++ s ∷ [])
    = ap₂ (λ (t : TransactionType) (ys : List Symbol). after_last (is_header_of t) ys) ty more
    ∙ after_last-snoc (is_header_of (open_type xs)) (open_group xs) s
    ∙ ap (λ (c : Bool). cond c [] (after_header xs ++ s ∷ [])) h in
    by_header b (length-snoc xs s) groups begins in_group after (ap length header)
  where
    plus_none : (n : ℕ) → n + 0 ≡ n
    plus_none n = omega arith

    by_header : (c : Bool) → length (xs ++ s ∷ []) ≡ length xs + 1 → count_by is_grh (xs ++ s ∷ []) ≡ count_by is_grh xs
        → transactions_begun Acknowledgement (xs ++ s ∷ []) ≡ transactions_begun Acknowledgement xs + cond c 1 0
        → count_by (is_header_of (open_type (xs ++ s ∷ []))) (open_group (xs ++ s ∷ []))
        ≡ count_by (is_header_of (open_type xs)) (open_group xs) + cond c 1 0
        → length (open_group (xs ++ s ∷ [])) ≡ length (open_group xs) + 1
        → length (after_header (xs ++ s ∷ [])) ≡ length (cond c [] (after_header xs ++ s ∷ []))
        → cond c (counts_with_header (counts_of xs)) (counts_with_other (counts_of xs)) ≡ counts_of (xs ++ s ∷ [])
    by_header true a d e f k l =
        same_counts (counts_with_header (counts_of xs)) (counts_of (xs ++ s ∷ [])) (sym a) (sym d) (sym e) (sym f) (sym k) (sym l)
    by_header false a d e f k l =
        same_counts (counts_with_other (counts_of xs)) (counts_of (xs ++ s ∷ [])) (sym a) (sym d) (omega (arith, e))
        (omega (arith, f)) (sym k) (sym (l ∙ length-snoc (after_header xs) s))

-- what is counted with one more symbol
pub counts-snoc : (xs : List Symbol) (s : Symbol) → counts_with (open_type xs) (counts_of xs) s ≡ counts_of (xs ++ s ∷ [])
counts-snoc xs (Grh t) = with_group xs t
counts-snoc xs s = with_inside xs s (is_header_of (open_type xs) s) refl refl refl
