-- Within the limits each number fits the width of its field.
use Rattle.std.proofs.Common.{◌≡◌, ℕ, suc, ◌+◌, ◌^◌, ◌<◌, ◌≤◌, List, [], ◌∷◌, ◌++◌, length, map, filter, refl, sym, ap, subst}
use Rattle.std.proofs.Common.{◌∙◌, arith}
use Rattle.std.specs.Prelude.{sum, sum_by}
use Rattle.std.specs.List.{AllZip, AllByRecursion, flat_map, range_with_len, enumerate_from}
use Rattle.std.proofs.lemmas.List.{length-map}
use Rattle.std.proofs.lemmas.List.Sums.{sum_by-cons}
use Rattle.cwr_fields.specs.declared.codes.TransactionType.{TransactionType}
use Rattle.cwr_fields.specs.declared.kinds.Kind.{Kind}
use Rattle.cwr_fields.specs.declared.kinds.Kind.TheVariants as kinds
use Rattle.cwr_fields.specs.Format.Layouts.{fields_after_type}
use Rattle.cwr_lines.specs.Format.Records.{RecordValue}
use Rattle.cwr_shape.specs.declared.limits.Limits.{Limits}
use Rattle.cwr_shape.specs.Format.Outlines.{symbols_of}
use Rattle.cwr_shape.specs.Format.Numbers.{numbers_of, group_numbers, transaction_numbers, group_records, all_records}
use Rattle.cwr_shape.proofs.lemmas.HeadFirst.{part_class}
use Rattle.cwr_values.specs.Format.Values.{GroupValue, TransmissionValue, IsTransmission, IsGroup, FitsIn, type_of, symbol_of}
use Rattle.cwr_values.specs.Format.Values.{symbol_by, outline_of, outline_of_group}
use Rattle.cwr_values.specs.Format.Rows.{records_of, records_of_group, trailer, lengths_of_value}
use Rattle.cwr_values.proofs.lemmas.Spelling.{length-records_of}
use Rattle.cwr_values.proofs.lemmas.OneCutIntoParts.{IsOnePart}
use Rattle.cwr_values.proofs.lemmas.OneSpelling.{parts_of, symbols-outline}

-- each number has no more digits than its field
abbrev pub NumbersFit : Kind → List ℕ → Type 0
NumbersFit kind numbers = AllZip (λ f n. n < 10 ^ f.width) (filter (λ f. f.derived) (fields_after_type kind)) numbers

-- the same of records with their numbers
abbrev pub AllFit : List (List ℕ) → List RecordValue → Type 0
AllFit numbers records = AllZip (λ ns r. NumbersFit r.kind ns) numbers records

AllFit-append : (ms ns : List (List ℕ)) (rs ss : List RecordValue) → AllFit ms rs → AllFit ns ss → AllFit (ms ++ ns) (rs ++ ss)
AllFit-append [] ns [] ss h k = k
AllFit-append [] ns (r ∷ rs) ss h k = absurd h
AllFit-append (m ∷ ms) ns [] ss h k = absurd h
AllFit-append (m ∷ ms) ns (r ∷ rs) ss h k = (h.0, AllFit-append ms ns rs ss h.1 k)

-- what stands in a transaction carries two numbers of eight digits
inside : (ty : TransactionType) (r : RecordValue) (kind : Kind) (j k : ℕ) → (part_class ty (symbol_by kind r) ≡ 0 → ⊥)
    → j < 10 ^ 8 → k < 10 ^ 8 → NumbersFit kind (j ∷ k ∷ [])
inside ty r kinds.Hdr j k h a b = absurd (h refl)
inside ty r kinds.Grh j k h a b = absurd (h refl)
inside ty r kinds.Grt j k h a b = absurd (h refl)
inside ty r kinds.Trl j k h a b = absurd (h refl)
inside ty r this_kind j k h a b = (a, (b, tt))

not_zero : (n m : ℕ) → n ≡ suc m → n ≡ 0 → ⊥
not_zero n m e z = omega arith

later_fit : (ty : TransactionType) (j k : ℕ) (rs : List RecordValue) → AllByRecursion (λ r. part_class ty (symbol_of r) ≡ 2) rs
    → j < 10 ^ 8 → k + length rs ≤ 10 ^ 8
    → AllFit (map (λ m. j ∷ m ∷ []) (range_with_len k (length rs))) rs
later_fit ty j k [] h a b = tt
later_fit ty j k (r ∷ rs) h a b = (
  inside ty r r.kind j k (not_zero (part_class ty (symbol_of r)) 1 h.0) a (omega arith),
  later_fit ty j (k + 1) rs h.1 a (omega arith),
)

transaction_fit : (ty : TransactionType) (j : ℕ) (t : List RecordValue) → IsOnePart (λ r. part_class ty (symbol_of r)) t
    → j < 10 ^ 8 → length t ≤ 10 ^ 8 → AllFit (transaction_numbers j (length t)) t
transaction_fit ty j t p a b =
    subst (λ (x : List RecordValue). AllFit (transaction_numbers j (length x)) x) (sym p.whole) (
      inside ty p.head p.head.kind j 0 (not_zero (part_class ty (symbol_of p.head)) 0 p.first) a (omega arith),
      later_fit ty j (0 + 1) p.rest p.later a (omega (arith, b, ap length p.whole)),
    )

transactions_fit : (ty : TransactionType) (i : ℕ) (ts : List (List RecordValue))
    → AllByRecursion (IsOnePart (λ r. part_class ty (symbol_of r))) ts → i + sum (map length ts) ≤ 10 ^ 8
    → AllFit (flat_map (λ p. transaction_numbers p.0 p.1) (enumerate_from i (map length ts))) (flat_map (λ t. t) ts)
transactions_fit ty i [] h b = tt
transactions_fit ty i (t ∷ ts) h b =
    let total : sum (map length (t ∷ ts)) ≡ length t + sum (map length ts) =
    sum_by-cons (λ (x : ℕ). x) (length t) (map length ts) in
    let some : length t ≡ suc (length h.0.rest) = ap length h.0.whole in
    AllFit-append (transaction_numbers i (length t))
    (flat_map (λ p. transaction_numbers p.0 p.1) (enumerate_from (i + 1) (map length ts))) t (flat_map (λ u. u) ts)
    (transaction_fit ty i t h.0 (omega arith) (omega arith)) (transactions_fit ty (i + 1) ts h.1 (omega arith))

at_least_one : (c : RecordValue → ℕ) (ts : List (List RecordValue)) → AllByRecursion (IsOnePart c) ts
    → length (map length ts) ≤ sum (map length ts)
at_least_one c [] h = omega arith
at_least_one c (t ∷ ts) h =
    let total : sum (map length (t ∷ ts)) ≡ length t + sum (map length ts) =
    sum_by-cons (λ (x : ℕ). x) (length t) (map length ts) in
    let some : length t ≡ suc (length h.0.rest) = ap length h.0.whole in
    omega (arith, total, some, at_least_one c ts h.1)

at_kind : (k l : Kind) (ns : List ℕ) → k ≡ l → NumbersFit l ns → NumbersFit k ns
at_kind k l ns e h = subst (λ (j : Kind). NumbersFit j ns) (sym e) h

group_fit : (i : ℕ) (g : GroupValue) → IsGroup g → i + 1 < 10 ^ 5 → group_records (map length g.transactions) < 10 ^ 8
    → AllFit (group_numbers i (map length g.transactions)) (records_of_group g)
group_fit i g h a b =
    let parts = parts_of (type_of g.head) g.transactions h.each in
    let count = at_least_one (λ r. part_class (type_of g.head) (symbol_of r)) g.transactions parts in (
      at_kind g.head.kind kinds.Grh ((i + 1) ∷ []) h.head.0 (a, tt),
      AllFit-append (flat_map (λ p. transaction_numbers p.0 p.1) (enumerate_from 0 (map length g.transactions))) _
          (flat_map (λ t. t) g.transactions) (g.foot ∷ [])
          (transactions_fit (type_of g.head) 0 g.transactions parts (omega arith))
          (at_kind g.foot.kind kinds.Grt _ h.foot.0 (a, ((omega (arith, count, b)), (b, tt))), tt),
    )

groups_fit : (i : ℕ) (gs : List GroupValue) → AllByRecursion IsGroup gs → i + length gs < 10 ^ 5
    → sum_by group_records (map (λ g. map length g.transactions) gs) < 10 ^ 8
    → AllFit (flat_map (λ p. group_numbers p.0 p.1) (enumerate_from i (map (λ g. map length g.transactions) gs)))
    (flat_map records_of_group gs)
groups_fit i [] h a b = tt
groups_fit i (g ∷ gs) h a b =
    let total = sum_by-cons group_records (map length g.transactions) (map (λ f. map length f.transactions) gs) in
    AllFit-append (group_numbers i (map length g.transactions)) _ (records_of_group g) (flat_map records_of_group gs)
    (group_fit i g h.0 (omega arith) (omega (arith, total, b)))
    (groups_fit (i + 1) gs h.1 (omega arith) (omega (arith, total, b)))

groups_count : (gs : List GroupValue) → AllByRecursion IsGroup gs
    → sum_by length (map (λ g. map length g.transactions) gs) ≤ sum_by group_records (map (λ g. map length g.transactions) gs)
groups_count [] h = omega arith
groups_count (g ∷ gs) h =
    let one = sum_by-cons length (map length g.transactions) (map (λ f. map length f.transactions) gs) in
    let two = sum_by-cons group_records (map length g.transactions) (map (λ f. map length f.transactions) gs) in
    let count =
    at_least_one (λ r. part_class (type_of g.head) (symbol_of r)) g.transactions
    (parts_of (type_of g.head) g.transactions h.0.each) in
    omega (arith, one, two, count, groups_count gs h.1)

-- Within limits of at most 99,999,999 records and 99,999 groups no number is cut.
pub numbers_fit : (limits : Limits) (v : TransmissionValue) → IsTransmission v → FitsIn limits v → limits.records < 10 ^ 8
    → limits.groups < 10 ^ 5 → AllFit (numbers_of (lengths_of_value v)) (records_of v)
numbers_fit limits v h k a b =
    let symbols : length (symbols_of (outline_of v)) ≡ length (records_of v) =
    ap length (symbols-outline v h) ∙ length-map (records_of v) symbol_of in
    let records : all_records (lengths_of_value v) ≤ limits.records = omega (arith, k.0, symbols, length-records_of v) in
    let groups : length v.groups ≤ limits.groups = omega (arith, k.1, length-map v.groups outline_of_group) in
    let lengths = length-map v.groups (λ g. map length g.transactions) in
    let count = groups_count v.groups h.each in (
      at_kind v.opening.kind kinds.Hdr [] h.opening.0 tt,
      AllFit-append (flat_map (λ p. group_numbers p.0 p.1) (enumerate_from 0 (lengths_of_value v))) _
          (flat_map records_of_group v.groups) (trailer ∷ [])
          (groups_fit 0 v.groups h.each (omega arith) (omega arith))
          ((omega arith, (omega arith, (omega arith, tt))), tt),
    )
