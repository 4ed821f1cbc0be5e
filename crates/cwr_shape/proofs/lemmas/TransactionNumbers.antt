-- The numbers of a transaction, record by record: counters give the same as its place in the group and its length.
use Rattle.std.proofs.Common.{◌≡◌, ℕ, suc, ◌+◌, ◌-◌, Bool, true, false, cond, not, List, [], ◌∷◌, ◌++◌, length, map, refl, sym}
use Rattle.std.proofs.Common.{ap, ap₂, subst, ◌∙◌, arith, true≢false, append_assoc}
use Rattle.std.specs.Prelude.{slice_index_or}
use Rattle.std.specs.List.{list_all, range_with_len}
use Rattle.std.proofs.lemmas.Bool.{and_parts}
use Rattle.cwr_fields.specs.declared.codes.TransactionType.{TransactionType}
use Rattle.cwr_fields.specs.declared.codes.TransactionType.TheVariants.{Agreement, NewWork, RevisedWork, Acknowledgement}
use Rattle.cwr_fields.specs.declared.kinds.Kind.TheVariants as kinds
use Rattle.cwr_shape.specs.declared.symbols.Symbol.{Symbol}
use Rattle.cwr_shape.specs.declared.symbols.Symbol.TheVariants.{Plain, Ipa, Grh}
use Rattle.cwr_shape.specs.declared.tallies.Counts.{Counts}
use Rattle.cwr_shape.specs.Format.Shapes.{Pattern, one_of, ◌then◌, many, carrying, Matches, IsShape, a, some, block, publisher}
use Rattle.cwr_shape.specs.Format.Shapes.{writer, tail_record, copy}
use Rattle.cwr_shape.specs.Format.Numbers.{transaction_numbers, symbol_kind}
use Rattle.cwr_shape.specs.Format.NextSymbols.{is_header_of, type_after, open_type, counts_of}
use Rattle.cwr_shape.specs.Format.ExpectedNumbers.{expected_numbers, expected_inside}
use Rattle.cwr_shape.specs.Steps.Counting.{counts_with, counts_with_header, counts_with_other}
use Rattle.cwr_shape.proofs.lemmas.PrefixFree.{only, matched_pass}
use Rattle.cwr_shape.proofs.lemmas.HeadFirst.{rest_after_head}
use Rattle.cwr_shape.proofs.lemmas.OneMore.{types_after, open_type-snoc, counts-snoc}

-- ---- the numbers of some symbols, one after another

-- the numbers that counters give symbols, of which the first stands in a group of the type
abbrev pub walk : TransactionType → Counts → List Symbol → List (List ℕ)
walk ty c [] = []
walk ty c (s ∷ xs) = expected_numbers ty c (symbol_kind s) ∷ walk (type_after ty s) (counts_with ty c s) xs

-- the counters after them
abbrev pub counts_after : TransactionType → Counts → List Symbol → Counts
counts_after ty c [] = c
counts_after ty c (s ∷ xs) = counts_after (type_after ty s) (counts_with ty c s) xs

pub walk-append : (ty : TransactionType) (c : Counts) (xs ys : List Symbol)
    → walk ty c (xs ++ ys) ≡ walk ty c xs ++ walk (types_after ty xs) (counts_after ty c xs) ys
walk-append ty c [] ys = refl
walk-append ty c (s ∷ xs) ys =
    ap (λ (l : List (List ℕ)). expected_numbers ty c (symbol_kind s) ∷ l)
    (walk-append (type_after ty s) (counts_with ty c s) xs ys)

pub counts_after-append : (ty : TransactionType) (c : Counts) (xs ys : List Symbol)
    → counts_after ty c (xs ++ ys) ≡ counts_after (types_after ty xs) (counts_after ty c xs) ys
counts_after-append ty c [] ys = refl
counts_after-append ty c (s ∷ xs) ys = counts_after-append (type_after ty s) (counts_with ty c s) xs ys

pub types_after-append : (ty : TransactionType) (xs ys : List Symbol)
    → types_after ty (xs ++ ys) ≡ types_after (types_after ty xs) ys
types_after-append ty [] ys = refl
types_after-append ty (s ∷ xs) ys = types_after-append (type_after ty s) xs ys

pub walk_at : (ty : TransactionType) (c : Counts) (xs : List Symbol) (s : Symbol) (rest : List Symbol)
    → slice_index_or (walk ty c (xs ++ s ∷ rest)) (length xs) []
    ≡ expected_numbers (types_after ty xs) (counts_after ty c xs) (symbol_kind s)
walk_at ty c [] s rest = refl
walk_at ty c (x ∷ xs) s rest = walk_at (type_after ty x) (counts_with ty c x) xs s rest

pub counted_on : (ys xs : List Symbol) → counts_after (open_type ys) (counts_of ys) xs ≡ counts_of (ys ++ xs)
counted_on ys [] = ap counts_of (sym (nil ys))
  where
    nil : (zs : List Symbol) → zs ++ [] ≡ zs
    nil [] = refl
    nil (z ∷ zs) = ap (λ (l : List Symbol). z ∷ l) (nil zs)
counted_on ys (x ∷ xs) =
    ap₂ (λ (ty : TransactionType) (c : Counts). counts_after ty c xs) (sym (open_type-snoc ys x)) (counts-snoc ys x)
    ∙ counted_on (ys ++ x ∷ []) xs ∙ ap counts_of (append_assoc ys (x ∷ []) xs)

-- what counters give after symbols is what is counted of these
pub counted : (xs : List Symbol) → counts_after Acknowledgement (counts_of []) xs ≡ counts_of xs
counted xs = counted_on [] xs

-- ---- how far counters move

pub record Moved (b c : Counts) (records transactions : ℕ) : Type 0 where
  pub records_more : c.records ≡ b.records + records
  pub groups_same : c.groups ≡ b.groups
  pub transactions_more : c.transactions ≡ b.transactions + transactions
  pub in_group_more : c.in_group ≡ b.in_group + transactions
  pub after_more : c.after_grh ≡ b.after_grh + records

-- ---- a transaction

-- neither a header of the type nor one of the records around transactions
abbrev pub is_inner : TransactionType → Symbol → Bool
is_inner ty (Grh t) = false
is_inner ty (Plain kinds.Grh) = false
is_inner ty (Plain kinds.Hdr) = false
is_inner ty (Plain kinds.Grt) = false
is_inner ty (Plain kinds.Trl) = false
is_inner ty s = not (is_header_of ty s)

-- a transaction's records: its header, and inner ones
pub record Headed (ty : TransactionType) (xs : List Symbol) : Type 0 where
  pub head : Symbol
  pub rest : List Symbol
  pub whole : xs ≡ head ∷ rest
  pub first : (c : Counts) → expected_numbers ty c (symbol_kind head) ≡ c.in_group ∷ 0 ∷ []
  pub counts : (c : Counts) → counts_with ty c head ≡ counts_with_header c
  pub same_type : type_after ty head ≡ ty
  pub inner : list_all (is_inner ty) rest ≡ true

headed : (ty : TransactionType) (s : Symbol) (p : Pattern) (xs : List Symbol)
    → ((c : Counts) → expected_numbers ty c (symbol_kind s) ≡ c.in_group ∷ 0 ∷ [])
    → ((c : Counts) → counts_with ty c s ≡ counts_with_header c) → type_after ty s ≡ ty → only (is_inner ty) p ≡ true
    → Matches (one_of (s ∷ []) then p) xs → Headed ty xs
headed ty s p xs f g h k m =
    let b = rest_after_head s p xs m in
    record {
      head = s;
      rest = b.0;
      whole = b.1;
      first = f;
      counts = g;
      same_type = h;
      inner = matched_pass (is_inner ty) p k b.0 b.2;
    }

pub headed_shape : (ty : TransactionType) (xs : List Symbol) → IsShape ty xs → Headed ty xs
unfolding only
headed_shape Agreement xs m = headed Agreement (Plain kinds.Agr) (carrying (some block)) xs (λ c. refl) (λ c. refl) refl refl m
headed_shape NewWork xs m =
    headed NewWork (Plain kinds.Nwr) (carrying (many publisher then some writer then many tail_record)) xs (λ c. refl) (λ c. refl)
    refl refl m
headed_shape RevisedWork xs m =
    headed RevisedWork (Plain kinds.Rev) (carrying (many publisher then some writer then many tail_record)) xs (λ c. refl)
    (λ c. refl) refl refl m
headed_shape Acknowledgement xs m =
    headed Acknowledgement (Plain kinds.Ack) (many (a kinds.Msg) then copy) xs (λ c. refl) (λ c. refl) refl refl m

not_true : (b : Bool) → not b ≡ true → b ≡ false
not_true true h = absurd (true≢false (sym h))
not_true false h = refl

pub record Inner (ty : TransactionType) (c : Counts) (s : Symbol) : Type 0 where
  pub numbers : expected_numbers ty c (symbol_kind s) ≡ (c.in_group - 1) ∷ (c.after_header + 1) ∷ []
  pub counts : counts_with ty c s ≡ counts_with_other c
  pub same_type : type_after ty s ≡ ty

pub inner_symbol : (ty : TransactionType) (c : Counts) (s : Symbol) → is_inner ty s ≡ true → Inner ty c s
inner_symbol ty c (Grh t) h = absurd (true≢false (sym h))
inner_symbol ty c (Plain kinds.Hdr) h = absurd (true≢false (sym h))
inner_symbol ty c (Plain kinds.Grt) h = absurd (true≢false (sym h))
inner_symbol ty c (Plain kinds.Trl) h = absurd (true≢false (sym h))
inner_symbol ty c (Plain kinds.Grh) h = absurd (true≢false (sym h))
inner_symbol ty c (Ipa role) h = record {
  numbers = ap (λ (b : Bool). expected_inside b c) (no_header ty);
  counts = ap (λ (b : Bool). cond b (counts_with_header c) (counts_with_other c)) (not_true (is_header_of ty (Ipa role)) h);
  same_type = refl;
}
  where
    no_header : (ty : TransactionType) → is_header_of ty (Plain kinds.Ipa) ≡ false
    no_header Agreement = refl
    no_header NewWork = refl
    no_header RevisedWork = refl
    no_header Acknowledgement = refl
inner_symbol ty c s h = record {
  numbers = ap (λ (b : Bool). expected_inside b c) (not_true (is_header_of ty s) h);
  counts = ap (λ (b : Bool). cond b (counts_with_header c) (counts_with_other c)) (not_true (is_header_of ty s) h);
  same_type = refl;
}

-- inner records after a header continue with its numbers
record WalksInner (ty : TransactionType) (c : Counts) (j : ℕ) (xs : List Symbol) : Type 0 where
  numbers : walk ty c xs ≡ map (λ k. j ∷ k ∷ []) (range_with_len (c.after_header + 1) (length xs))
  moved : Moved c (counts_after ty c xs) (length xs) 0
  same_type : types_after ty xs ≡ ty

walks_inner : (ty : TransactionType) (c : Counts) (j : ℕ) (xs : List Symbol) → c.in_group ≡ j + 1
    → list_all (is_inner ty) xs ≡ true → WalksInner ty c j xs
walks_inner ty c j [] e h = record {
  numbers = refl;
  moved =
      record {
        records_more = omega arith;
        groups_same = refl;
        transactions_more = omega arith;
        in_group_more = omega arith;
        after_more = omega arith;
      };
  same_type = refl;
}
walks_inner ty c j (s ∷ xs) e h =
    let parts = and_parts (is_inner ty s) (list_all (is_inner ty) xs) h in
    let here = inner_symbol ty c s parts.0 in
    let rest = walks_inner ty (counts_with_other c) j xs e parts.1 in
    let numbers : expected_numbers ty c (symbol_kind s) ≡ j ∷ (c.after_header + 1) ∷ [] =
    here.numbers ∙ ap (λ (n : ℕ). n ∷ (c.after_header + 1) ∷ []) (omega (arith, e)) in
    let on : counts_after (type_after ty s) (counts_with ty c s) xs ≡ counts_after ty (counts_with_other c) xs =
    ap₂ (λ (t : TransactionType) (b : Counts). counts_after t b xs) here.same_type here.counts in
    record {
      numbers =
          ap₂ (λ (n : List ℕ) (l : List (List ℕ)). n ∷ l) numbers
          (ap₂ (λ (t : TransactionType) (b : Counts). walk t b xs) here.same_type here.counts ∙ rest.numbers);
      moved = subst (λ (b : Counts). Moved c b (suc (length xs)) 0) (sym on) (record {
        records_more = omega (arith, rest.moved.records_more);
        groups_same = rest.moved.groups_same;
        transactions_more = omega (arith, rest.moved.transactions_more);
        in_group_more = omega (arith, rest.moved.in_group_more);
        after_more = omega (arith, rest.moved.after_more);
      });
      same_type = ap (λ (t : TransactionType). types_after t xs) here.same_type ∙ rest.same_type;
    }

-- a transaction
pub record WalksTransaction (ty : TransactionType) (c : Counts) (xs : List Symbol) : Type 0 where
  pub numbers : walk ty c xs ≡ transaction_numbers c.in_group (length xs)
  pub moved : Moved c (counts_after ty c xs) (length xs) 1
  pub same_type : types_after ty xs ≡ ty

walks_headed : (ty : TransactionType) (c : Counts) (s : Symbol) (xs : List Symbol)
    → expected_numbers ty c (symbol_kind s) ≡ c.in_group ∷ 0 ∷ [] → counts_with ty c s ≡ counts_with_header c
    → type_after ty s ≡ ty → list_all (is_inner ty) xs ≡ true → WalksTransaction ty c (s ∷ xs)
walks_headed ty c s xs first counts same inner =
    let rest = walks_inner ty (counts_with_header c) c.in_group xs refl inner in
    let on : counts_after (type_after ty s) (counts_with ty c s) xs ≡ counts_after ty (counts_with_header c) xs =
    ap₂ (λ (t : TransactionType) (b : Counts). counts_after t b xs) same counts in
    record {
      numbers =
          ap₂ (λ (n : List ℕ) (l : List (List ℕ)). n ∷ l) first
          (ap₂ (λ (t : TransactionType) (b : Counts). walk t b xs) same counts ∙ rest.numbers);
      moved = subst (λ (b : Counts). Moved c b (suc (length xs)) 1) (sym on) (record {
        records_more = omega (arith, rest.moved.records_more);
        groups_same = rest.moved.groups_same;
        transactions_more = omega (arith, rest.moved.transactions_more);
        in_group_more = omega (arith, rest.moved.in_group_more);
        after_more = omega (arith, rest.moved.after_more);
      });
      same_type = ap (λ (t : TransactionType). types_after t xs) same ∙ rest.same_type;
    }

pub walks_transaction : (ty : TransactionType) (c : Counts) (xs : List Symbol) → IsShape ty xs → WalksTransaction ty c xs
walks_transaction ty c xs shape =
    let h = headed_shape ty xs shape in
    subst (WalksTransaction ty c) (sym h.whole) (walks_headed ty c h.head h.rest (h.first c) (h.counts c) h.same_type h.inner)
