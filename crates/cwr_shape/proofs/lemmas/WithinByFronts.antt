-- A transmission is within the limits exactly where none of its fronts passes one.
use Rattle.std.proofs.Common.{◌≡◌, ℕ, suc, ◌+◌, ◌≤◌, Bool, true, false, cond, List, [], ◌∷◌, ◌++◌, length, Option, Some, None}
use Rattle.std.proofs.Common.{refl, sym, ap, ap₂, subst, ◌∙◌, arith, true≢false, append_assoc, append-nil, ltb-false}
use Rattle.std.specs.Prelude.{nat_lt}
use Rattle.std.specs.List.{list_all, count_by, AllByRecursion, flat_map}
use Rattle.std.proofs.lemmas.Bool.{and_parts, le-ltb}
use Rattle.std.proofs.lemmas.List.{length-append}
use Rattle.std.proofs.lemmas.List.Sums.{sum_by-cons, sum_by-append}
use Rattle.cwr_fields.specs.declared.codes.TransactionType.{TransactionType}
use Rattle.cwr_fields.specs.declared.codes.TransactionType.TheVariants.{Agreement, NewWork, RevisedWork, Acknowledgement}
use Rattle.cwr_fields.specs.declared.kinds.Kind.TheVariants as kinds
use Rattle.cwr_shape.specs.declared.symbols.Symbol.{Symbol}
use Rattle.cwr_shape.specs.declared.symbols.Symbol.TheVariants.{Plain, Grh}
use Rattle.cwr_shape.specs.declared.limits.LimitKind.TheVariants.{Records, Groups, Transaction}
use Rattle.cwr_shape.specs.declared.tallies.Counts.{Counts}
use Rattle.cwr_shape.specs.Format.Ranges.{LimitValues}
use Rattle.cwr_shape.specs.Format.Shapes.{IsShape, pattern_of}
use Rattle.cwr_shape.specs.Format.Outlines.{GroupOutline, group_symbols, symbols_of, IsGroupOutline, IsOutline, KeepsTo, IsWithin}
use Rattle.cwr_shape.specs.Format.LastSymbols.{is_grh}
use Rattle.cwr_shape.specs.Format.NextSymbols.{type_after, open_type, counts_of, scope_by, has_open_transaction, open_records}
use Rattle.cwr_shape.specs.Format.NextSymbols.{passed_limit}
use Rattle.cwr_shape.specs.Steps.Counting.{counts_with, counts_with_group, counts_with_header, counts_with_other}
use Rattle.cwr_shape.proofs.lemmas.PrefixFree.{only, matched_pass}
use Rattle.cwr_shape.proofs.lemmas.OneMore.{last_or-snoc, open_type-snoc, counts-snoc}
use Rattle.cwr_shape.proofs.lemmas.TransactionNumbers.{is_inner, headed_shape, inner_symbol}

-- ---- what is required of one front

-- the symbols keep to each limit
pub record KeepsLimits (limits : LimitValues) (xs : List Symbol) : Type 0 where
  pub records : length xs ≤ limits.records
  pub groups : count_by is_grh xs ≤ limits.groups
  pub transaction : open_records xs ≤ limits.transaction

pub passes_none : (limits : LimitValues) (xs : List Symbol) → KeepsLimits limits xs → passed_limit limits xs ≡ None
passes_none limits xs h =
    by_tests (nat_lt limits.records (length xs)) (nat_lt limits.groups (count_by is_grh xs))
    (nat_lt limits.transaction (open_records xs))
    (le-ltb limits.records (length xs) h.records) (le-ltb limits.groups (count_by is_grh xs) h.groups)
    (le-ltb limits.transaction (open_records xs) h.transaction)
  where
    by_tests : (a b c : Bool) → a ≡ false → b ≡ false → c ≡ false
        → cond a (Some Records) (cond b (Some Groups) (cond c (Some Transaction) None)) ≡ None
    by_tests true b c h k l = absurd (true≢false h)
    by_tests false true c h k l = absurd (true≢false k)
    by_tests false false true h k l = absurd (true≢false l)
    by_tests false false false h k l = refl

pub none_passed : (limits : LimitValues) (xs : List Symbol) → passed_limit limits xs ≡ None → KeepsLimits limits xs
none_passed limits xs e =
    let none =
    by_tests (nat_lt limits.records (length xs)) (nat_lt limits.groups (count_by is_grh xs))
    (nat_lt limits.transaction (open_records xs)) e in
    record {
      records = ltb-false limits.records (length xs) none.0;
      groups = ltb-false limits.groups (count_by is_grh xs) none.1;
      transaction = ltb-false limits.transaction (open_records xs) none.2;
    }
  where
    by_tests : (a b c : Bool) → cond a (Some Records) (cond b (Some Groups) (cond c (Some Transaction) None)) ≡ None
        → (a ≡ false) × (b ≡ false) × (c ≡ false)
    by_tests true b c k = absurd (cc k)
    by_tests false true c k = absurd (cc k)
    by_tests false false true k = absurd (cc k)
    by_tests false false false k = (refl, refl, refl)

-- ---- the open transaction, one symbol after another

-- the symbol is one of a transaction's
abbrev pub is_of_transaction : Symbol → Bool
is_of_transaction s = has_open_transaction (scope_by (Some s))

-- how many records the open transaction has after the symbol, by what is counted with it
abbrev pub open_by : Symbol → Counts → ℕ
open_by s c = cond (is_of_transaction s) (1 + c.after_header) 0

-- counted on from there, over symbols of which the first stands in a group of the type, the open transaction never has more than so many records
abbrev pub Keeps : ℕ → TransactionType → Counts → List Symbol → Type 0
Keeps limit ty c [] = Unit {0}
Keeps limit ty c (s ∷ xs) = (open_by s (counts_with ty c s) ≤ limit) × Keeps limit (type_after ty s) (counts_with ty c s) xs

pub keeps_front : (limit : ℕ) (ty : TransactionType) (c : Counts) (xs ys : List Symbol) → Keeps limit ty c (xs ++ ys)
    → Keeps limit ty c xs
keeps_front limit ty c [] ys h = tt
keeps_front limit ty c (s ∷ xs) ys h = (h.0, keeps_front limit (type_after ty s) (counts_with ty c s) xs ys h.1)

pub open_records-snoc : (xs : List Symbol) (s : Symbol)
    → open_records (xs ++ s ∷ []) ≡ open_by s (counts_with (open_type xs) (counts_of xs) s)
open_records-snoc xs s =
    ap₂ (λ (o : Option Symbol) (c : Counts). cond (has_open_transaction (scope_by o)) (1 + c.after_header) 0)
    (last_or-snoc None xs s) (sym (counts-snoc xs s))

-- so it has no more after the last of them
pub fronts_forth : (limit : ℕ) (ys xs : List Symbol) → open_records ys ≤ limit → Keeps limit (open_type ys) (counts_of ys) xs
    → open_records (ys ++ xs) ≤ limit
fronts_forth limit ys [] h k = subst (λ (l : List Symbol). open_records l ≤ limit) (sym (append-nil ys)) h
fronts_forth limit ys (s ∷ xs) h k =
    let here : open_records (ys ++ s ∷ []) ≤ limit = subst (λ (n : ℕ). n ≤ limit) (sym (open_records-snoc ys s)) k.0 in
    let next : Keeps limit (open_type (ys ++ s ∷ [])) (counts_of (ys ++ s ∷ [])) xs
    = subst (λ (ty : TransactionType). Keeps limit ty (counts_of (ys ++ s ∷ [])) xs) (sym (open_type-snoc ys s))
    (subst (λ (c : Counts). Keeps limit (type_after (open_type ys) s) c xs) (counts-snoc ys s) k.1) in
    subst (λ (l : List Symbol). open_records l ≤ limit) (append_assoc ys (s ∷ []) xs)
    (fronts_forth limit (ys ++ s ∷ []) xs here next)

-- and it keeps to the number over symbols of which it does so after each front
pub fronts_back : (limit : ℕ) (ys xs : List Symbol)
    → ((front rest : List Symbol) → xs ≡ front ++ rest → open_records (ys ++ front) ≤ limit)
    → Keeps limit (open_type ys) (counts_of ys) xs
fronts_back limit ys [] h = tt
fronts_back limit ys (s ∷ xs) h =
    let here : open_by s (counts_with (open_type ys) (counts_of ys) s) ≤ limit =
    subst (λ (n : ℕ). n ≤ limit) (open_records-snoc ys s) (h (s ∷ []) xs refl) in
    let next : Keeps limit (open_type (ys ++ s ∷ [])) (counts_of (ys ++ s ∷ [])) xs
    = fronts_back limit (ys ++ s ∷ []) xs
    (λ front rest e. subst (λ (l : List Symbol). open_records l ≤ limit) (sym (append_assoc ys (s ∷ []) front))
    (h (s ∷ front) rest (ap (λ (l : List Symbol). s ∷ l) e))) in (
      here,
      subst (λ (c : Counts). Keeps limit (type_after (open_type ys) s) c xs) (sym (counts-snoc ys s))
          (subst (λ (ty : TransactionType). Keeps limit ty (counts_of (ys ++ s ∷ [])) xs) (open_type-snoc ys s) next),
    )

-- ---- a symbol whose count is known

step_forth : (limit : ℕ) (ty : TransactionType) (b c : Counts) (s : Symbol) (xs : List Symbol) → counts_with ty b s ≡ c
    → type_after ty s ≡ ty → open_by s c ≤ limit → Keeps limit ty c xs
    → Keeps limit ty b (s ∷ xs)
step_forth limit ty b c s xs counts same h k = (
  subst (λ (d : Counts). open_by s d ≤ limit) (sym counts) h,
  subst (λ (u : TransactionType). Keeps limit u (counts_with ty b s) xs) (sym same)
      (subst (λ (d : Counts). Keeps limit ty d xs) (sym counts) k),
)

step_back : (limit : ℕ) (ty : TransactionType) (b c : Counts) (s : Symbol) (xs : List Symbol) → counts_with ty b s ≡ c
    → type_after ty s ≡ ty → Keeps limit ty b (s ∷ xs)
    → (open_by s c ≤ limit) × Keeps limit ty c xs
step_back limit ty b c s xs counts same h = (
  subst (λ (d : Counts). open_by s d ≤ limit) counts h.0,
  subst (λ (d : Counts). Keeps limit ty d xs) counts
      (subst (λ (u : TransactionType). Keeps limit u (counts_with ty b s) xs) same h.1),
)

at_most : (b : Bool) (n limit : ℕ) → n ≤ limit → cond b n 0 ≤ limit
at_most true n limit h = h
at_most false n limit h = omega arith

-- ---- a transaction

-- each of a transaction's records is one
inside_named : (ty : TransactionType) → only is_of_transaction (pattern_of ty) ≡ true
unfolding only
inside_named Agreement = refl
inside_named NewWork = refl
inside_named RevisedWork = refl
inside_named Acknowledgement = refl

inside_shape : (ty : TransactionType) (xs : List Symbol) → IsShape ty xs → list_all is_of_transaction xs ≡ true
inside_shape ty xs h = matched_pass is_of_transaction (pattern_of ty) (inside_named ty) xs h

pub inner_forth : (limit : ℕ) (ty : TransactionType) (c : Counts) (xs more : List Symbol) → list_all (is_inner ty) xs ≡ true
    → 1 + c.after_header + length xs ≤ limit
    → ((d : Counts) → Keeps limit ty d more) → Keeps limit ty c (xs ++ more)
inner_forth limit ty c [] more h k f = f c
inner_forth limit ty c (s ∷ xs) more h k f =
    let parts = and_parts (is_inner ty s) (list_all (is_inner ty) xs) h in
    let here = inner_symbol ty c s parts.0 in
    step_forth limit ty c (counts_with_other c) s (xs ++ more) here.counts here.same_type
    (at_most (is_of_transaction s) (1 + (c.after_header + 1)) limit (omega (arith, k)))
    (inner_forth limit ty (counts_with_other c) xs more parts.1 (omega (arith, k)) f)

-- after the last inner record the transaction has no more either, and the counting continues from some counts
inner_back : (limit : ℕ) (ty : TransactionType) (c : Counts) (xs more : List Symbol) → list_all (is_inner ty) xs ≡ true
    → list_all is_of_transaction xs ≡ true → 1 + c.after_header ≤ limit
    → Keeps limit ty c (xs ++ more) → (1 + c.after_header + length xs ≤ limit) × (d : Counts) × Keeps limit ty d more
inner_back limit ty c [] more h i k m = (omega (arith, k), c, m)
inner_back limit ty c (s ∷ xs) more h i k m =
    let parts = and_parts (is_inner ty s) (list_all (is_inner ty) xs) h in
    let inside = and_parts (is_of_transaction s) (list_all is_of_transaction xs) i in
    let here = inner_symbol ty c s parts.0 in
    let on = step_back limit ty c (counts_with_other c) s (xs ++ more) here.counts here.same_type m in
    let few : 1 + (c.after_header + 1) ≤ limit =
    subst (λ (b : Bool). cond b (1 + (c.after_header + 1)) 0 ≤ limit) inside.0 on.0 in
    let rest = inner_back limit ty (counts_with_other c) xs more parts.1 inside.1 few on.1 in
    (omega (arith, rest.0), rest.1, rest.2)

transaction_forth : (limit : ℕ) (ty : TransactionType) (c : Counts) (xs more : List Symbol) → IsShape ty xs → length xs ≤ limit
    → ((d : Counts) → Keeps limit ty d more) → Keeps limit ty c (xs ++ more)
transaction_forth limit ty c xs more shape few f =
    let h = headed_shape ty xs shape in
    let size : length xs ≡ suc (length h.rest) = ap length h.whole in
    subst (λ (l : List Symbol). Keeps limit ty c (l ++ more)) (sym h.whole)
    (step_forth limit ty c (counts_with_header c) h.head (h.rest ++ more) (h.counts c) h.same_type
    (at_most (is_of_transaction h.head) (1 + 0) limit (omega (arith, size, few)))
    (inner_forth limit ty (counts_with_header c) h.rest more h.inner (omega (arith, size, few)) f))

-- the whole transaction has no more, and the counting continues after it
transaction_back : (limit : ℕ) (ty : TransactionType) (c : Counts) (xs more : List Symbol) → IsShape ty xs
    → Keeps limit ty c (xs ++ more) → (length xs ≤ limit) × (d : Counts) × Keeps limit ty d more
transaction_back limit ty c xs more shape m =
    let h = headed_shape ty xs shape in
    let size : length xs ≡ suc (length h.rest) = ap length h.whole in
    let inside =
    and_parts (is_of_transaction h.head) (list_all is_of_transaction h.rest)
    (sym (ap (list_all is_of_transaction) h.whole) ∙ inside_shape ty xs shape) in
    let on =
    step_back limit ty c (counts_with_header c) h.head (h.rest ++ more) (h.counts c) h.same_type
    (subst (λ (l : List Symbol). Keeps limit ty c (l ++ more)) h.whole m) in
    let few : 1 + 0 ≤ limit = subst (λ (b : Bool). cond b (1 + 0) 0 ≤ limit) inside.0 on.0 in
    let rest = inner_back limit ty (counts_with_header c) h.rest more h.inner inside.1 few on.1 in
    (omega (arith, size, rest.0), rest.1, rest.2)

-- ---- the transactions of a group

-- none of them has more records than so many
abbrev AreShort : ℕ → List (List Symbol) → Type 0
AreShort limit ts = AllByRecursion (λ t. length t ≤ limit) ts

transactions_forth : (limit : ℕ) (ty : TransactionType) (c : Counts) (ts : List (List Symbol)) (more : List Symbol)
    → AllByRecursion (IsShape ty) ts → AreShort limit ts
    → ((d : Counts) → Keeps limit ty d more) → Keeps limit ty c (flat_map (λ t. t) ts ++ more)
transactions_forth limit ty c [] more h k f = f c
transactions_forth limit ty c (t ∷ ts) more h k f =
    subst (Keeps limit ty c) (sym (append_assoc t (flat_map (λ u. u) ts) more))
    (transaction_forth limit ty c t (flat_map (λ u. u) ts ++ more) h.0 k.0 (λ d. transactions_forth limit ty d ts more h.1 k.1 f))

transactions_back : (limit : ℕ) (ty : TransactionType) (c : Counts) (ts : List (List Symbol)) (more : List Symbol)
    → AllByRecursion (IsShape ty) ts → Keeps limit ty c (flat_map (λ t. t) ts ++ more)
    → AreShort limit ts × (d : Counts) × Keeps limit ty d more
transactions_back limit ty c [] more h m = (tt, c, m)
transactions_back limit ty c (t ∷ ts) more h m =
    let one =
    transaction_back limit ty c t (flat_map (λ u. u) ts ++ more) h.0
    (subst (Keeps limit ty c) (append_assoc t (flat_map (λ u. u) ts) more) m) in
    let rest = transactions_back limit ty one.1 ts more h.1 one.2 in
    ((one.0, rest.0), rest.1, rest.2)

-- ---- groups

-- a group, what follows it, and what follows that
pub group_then : (g : GroupOutline) (xs more : List Symbol)
    → (group_symbols g ++ xs) ++ more ≡ Grh g.ty ∷ (flat_map (λ t. t) g.transactions ++ (Plain kinds.Grt ∷ (xs ++ more)))
group_then g xs more =
    append_assoc (group_symbols g) xs more
    ∙ ap (λ (l : List Symbol). Grh g.ty ∷ l) (append_assoc (flat_map (λ t. t) g.transactions) (Plain kinds.Grt ∷ []) (xs ++ more))

groups_forth : (limit : ℕ) (ty : TransactionType) (c : Counts) (groups : List GroupOutline) (more : List Symbol)
    → AllByRecursion IsGroupOutline groups
    → AllByRecursion (λ g. AreShort limit g.transactions) groups → ((u : TransactionType) (d : Counts) → Keeps limit u d more)
    → Keeps limit ty c (flat_map group_symbols groups ++ more)
groups_forth limit ty c [] more h k f = f ty c
groups_forth limit ty c (g ∷ groups) more h k f =
    subst (Keeps limit ty c) (sym (group_then g (flat_map group_symbols groups) more)) (
      omega arith,
      transactions_forth limit g.ty (counts_with_group c) g.transactions
          (Plain kinds.Grt ∷ (flat_map group_symbols groups ++ more)) h.0.1 k.0
          (λ d. (omega arith, groups_forth limit g.ty (counts_with g.ty d (Plain kinds.Grt)) groups more h.1 k.1 f)),
    )

groups_back : (limit : ℕ) (ty : TransactionType) (c : Counts) (groups : List GroupOutline) (more : List Symbol)
    → AllByRecursion IsGroupOutline groups
    → Keeps limit ty c (flat_map group_symbols groups ++ more) → AllByRecursion (λ g. AreShort limit g.transactions) groups
groups_back limit ty c [] more h m = tt
groups_back limit ty c (g ∷ groups) more h m =
    let on : Keeps limit ty c
    (Grh g.ty ∷ (flat_map (λ t. t) g.transactions ++ (Plain kinds.Grt ∷ (flat_map group_symbols groups ++ more))))
    = subst (Keeps limit ty c) (group_then g (flat_map group_symbols groups) more) m in
    let inside =
    transactions_back limit g.ty (counts_with_group c) g.transactions
    (Plain kinds.Grt ∷ (flat_map group_symbols groups ++ more)) h.0.1 on.1 in
    (inside.0, groups_back limit g.ty (counts_with g.ty inside.1 (Plain kinds.Grt)) groups more h.1 inside.2.1)

-- ---- how many groups begin

-- a transaction's record is no GRH
no_grh : (s : Symbol) → is_of_transaction s ≡ true → ◌≡◌ {A = ℕ} (cond (is_grh s) 1 0) 0
no_grh (Grh t) h = absurd (true≢false (sym h))
no_grh s h = refl

none_inside : (xs : List Symbol) → list_all is_of_transaction xs ≡ true → count_by is_grh xs ≡ 0
none_inside [] h = refl
none_inside (s ∷ xs) h =
    let parts = and_parts (is_of_transaction s) (list_all is_of_transaction xs) h in
    omega (arith, sum_by-cons (λ x. cond (is_grh x) 1 0) s xs, no_grh s parts.0, none_inside xs parts.1)

none_in_transactions : (ty : TransactionType) (ts : List (List Symbol)) → AllByRecursion (IsShape ty) ts
    → count_by is_grh (flat_map (λ t. t) ts) ≡ 0
none_in_transactions ty [] h = refl
none_in_transactions ty (t ∷ ts) h =
    omega (
      arith,
      sum_by-append (λ x. cond (is_grh x) 1 0) t (flat_map (λ u. u) ts),
      none_inside t (inside_shape ty t h.0),
      none_in_transactions ty ts h.1,
    )

one_in_group : (g : GroupOutline) → IsGroupOutline g → count_by is_grh (group_symbols g) ≡ 1
one_in_group g h =
    let inside : List Symbol = flat_map (λ t. t) g.transactions in
    let first : count_by is_grh (group_symbols g) ≡ 1 + count_by is_grh (inside ++ Plain kinds.Grt ∷ []) =
    sum_by-cons (λ x. cond (is_grh x) 1 0) (Grh g.ty) (inside ++ Plain kinds.Grt ∷ []) in
    let last : count_by is_grh (inside ++ Plain kinds.Grt ∷ []) ≡ count_by is_grh inside + 0 =
    sum_by-append (λ x. cond (is_grh x) 1 0) inside (Plain kinds.Grt ∷ []) in
    omega (arith, first, last, none_in_transactions g.ty g.transactions h.1)

one_in_each : (groups : List GroupOutline) → AllByRecursion IsGroupOutline groups
    → count_by is_grh (flat_map group_symbols groups) ≡ length groups
one_in_each [] h = refl
one_in_each (g ∷ groups) h =
    omega (
      arith,
      sum_by-append (λ x. cond (is_grh x) 1 0) (group_symbols g) (flat_map group_symbols groups),
      one_in_group g h.0,
      one_in_each groups h.1,
    )

pub groups_counted : (groups : List GroupOutline) → IsOutline groups → count_by is_grh (symbols_of groups) ≡ length groups
groups_counted groups h =
    let inside : List Symbol = flat_map group_symbols groups in
    let first : count_by is_grh (symbols_of groups) ≡ 0 + count_by is_grh (inside ++ Plain kinds.Trl ∷ []) =
    sum_by-cons (λ x. cond (is_grh x) 1 0) (Plain kinds.Hdr) (inside ++ Plain kinds.Trl ∷ []) in
    let last : count_by is_grh (inside ++ Plain kinds.Trl ∷ []) ≡ count_by is_grh inside + 0 =
    sum_by-append (λ x. cond (is_grh x) 1 0) inside (Plain kinds.Trl ∷ []) in
    omega (arith, first, last, one_in_each groups h.1)

-- ---- a transmission

-- a transmission keeps to the limit of a transaction exactly where the open transaction never has more records
pub keeps_whole : (limits : LimitValues) (groups : List GroupOutline) → IsOutline groups → KeepsTo Transaction limits groups
    → Keeps limits.transaction Acknowledgement (counts_of []) (symbols_of groups)
keeps_whole limits groups h k = (
  omega arith,
  groups_forth limits.transaction Acknowledgement (counts_with Acknowledgement (counts_of []) (Plain kinds.Hdr))
      groups (Plain kinds.Trl ∷ []) h.1 k (λ u d. (omega arith, tt)),
)

pub whole_keeps : (limits : LimitValues) (groups : List GroupOutline) → IsOutline groups
    → Keeps limits.transaction Acknowledgement (counts_of []) (symbols_of groups) → KeepsTo Transaction limits groups
whole_keeps limits groups h k =
    groups_back limits.transaction Acknowledgement (counts_with Acknowledgement (counts_of []) (Plain kinds.Hdr)) groups
    (Plain kinds.Trl ∷ []) h.1 k.1

-- no front of a transmission within the limits passes one
pub fits_along : (limits : LimitValues) (groups : List GroupOutline) (front rest : List Symbol) → IsOutline groups
    → IsWithin limits groups → symbols_of groups ≡ front ++ rest → passed_limit limits front ≡ None
fits_along limits groups front rest h w e =
    let all : Keeps limits.transaction Acknowledgement (counts_of []) (symbols_of groups)
    = (
      omega arith,
      groups_forth limits.transaction Acknowledgement (counts_with Acknowledgement (counts_of []) (Plain kinds.Hdr))
          groups (Plain kinds.Trl ∷ []) h.1 w.2 (λ u d. (omega arith, tt)),
    ) in
    let kept : Keeps limits.transaction Acknowledgement (counts_of []) front
    = keeps_front limits.transaction Acknowledgement (counts_of []) front rest
    (subst (Keeps limits.transaction Acknowledgement (counts_of [])) e all) in
    passes_none limits front (record {
      records = omega (arith, w.0, ap length e, length-append front rest);
      groups =
          omega
          (arith, w.1, groups_counted groups h, ap (count_by is_grh) e, sum_by-append (λ x. cond (is_grh x) 1 0) front rest);
      transaction = fronts_forth limits.transaction [] front (omega arith) kept;
    })

-- a transmission none of whose fronts passes a limit is within them
pub along_fits : (limits : LimitValues) (groups : List GroupOutline) → IsOutline groups
    → ((front rest : List Symbol) → symbols_of groups ≡ front ++ rest → passed_limit limits front ≡ None) → IsWithin limits groups
along_fits limits groups h each =
    let whole = none_passed limits (symbols_of groups) (each (symbols_of groups) [] (sym (append-nil (symbols_of groups)))) in
    let kept : Keeps limits.transaction Acknowledgement (counts_of []) (symbols_of groups)
    = fronts_back limits.transaction [] (symbols_of groups)
    (λ front rest e. (none_passed limits front (each front rest e)).transaction) in (
      whole.records,
      omega (arith, whole.groups, groups_counted groups h),
      groups_back limits.transaction Acknowledgement (counts_with Acknowledgement (counts_of []) (Plain kinds.Hdr)) groups
          (Plain kinds.Trl ∷ []) h.1 kept.1,
    )
