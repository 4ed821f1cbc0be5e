-- The canonical text of a transmission spells it.
use Rattle.std.proofs.Common.{◌≡◌, ℕ, ◌+◌, List, [], ◌∷◌, ◌++◌, length, map, refl, sym, ap, ◌∙◌, arith, append_assoc}
use Rattle.std.specs.List.{AllZip, AllByRecursion, flat_map, zip, enumerate_from}
use Rattle.std.specs.Prelude.{sum, sum_by}
use Rattle.std.proofs.lemmas.List.{length-append, length-map}
use Rattle.std.proofs.lemmas.List.FromFn.{length-map-range_with_len}
use Rattle.std.proofs.lemmas.List.Sums.{sum_by-cons}
use Rattle.std.proofs.lemmas.Slice.Zip.{length-zip}
use Rattle.cwr_lines.specs.Format.Records.{RecordValue, IsRecord, Row, row_of, full_line}
use Rattle.cwr_lines.specs.Format.Lines.{IsLineOf}
use Rattle.cwr_lines.proofs.lemmas.RowLaws.{full_line_is_line}
use Rattle.cwr_shape.specs.Format.Numbers.{numbers_of, group_numbers, transaction_numbers, group_records, all_records}
use Rattle.cwr_values.specs.Format.Values.{GroupValue, TransmissionValue, IsTransmission, IsGroup, IsTransaction, type_of}
use Rattle.cwr_values.specs.Format.Rows.{records_of, records_of_group, trailer, lengths_of_value, rows, Spells, canonical_line}
use Rattle.cwr_values.specs.Format.Rows.{canonical_text}

each-append : (xs ys : List RecordValue) → AllByRecursion IsRecord xs → AllByRecursion IsRecord ys
    → AllByRecursion IsRecord (xs ++ ys)
each-append [] ys h k = k
each-append (x ∷ xs) ys h k = (h.0, each-append xs ys h.1 k)

transactions_in_order : (g : GroupValue) (ts : List (List RecordValue)) → AllByRecursion (IsTransaction (type_of g.head)) ts
    → AllByRecursion IsRecord (flat_map (λ t. t) ts)
transactions_in_order g [] h = tt
transactions_in_order g (t ∷ ts) h = each-append t (flat_map (λ u. u) ts) h.0.0 (transactions_in_order g ts h.1)

group_in_order : (g : GroupValue) → IsGroup g → AllByRecursion IsRecord (records_of_group g)
group_in_order g h = (
  h.head.1,
  each-append (flat_map (λ t. t) g.transactions) (g.foot ∷ []) (transactions_in_order g g.transactions h.each)
      (h.foot.1, tt),
)

groups_in_order : (gs : List GroupValue) → AllByRecursion IsGroup gs → AllByRecursion IsRecord (flat_map records_of_group gs)
groups_in_order [] h = tt
groups_in_order (g ∷ gs) h =
    each-append (records_of_group g) (flat_map records_of_group gs) (group_in_order g h.0) (groups_in_order gs h.1)

-- each record of a transmission is in order
pub records_in_order : (v : TransmissionValue) → IsTransmission v → AllByRecursion IsRecord (records_of v)
records_in_order v h =
    (h.opening.1, each-append (flat_map records_of_group v.groups) (trailer ∷ []) (groups_in_order v.groups h.each) (tt, tt))

abbrev pub full_line_cr : Row → List ℕ
full_line_cr row = full_line row ++ 13 ∷ []

lines_of_rows : (ns : List (List ℕ)) (rs : List RecordValue) → AllByRecursion IsRecord rs
    → AllZip IsLineOf (map (λ p. row_of p.0 p.1) (zip ns rs)) (map full_line_cr (map (λ p. row_of p.0 p.1) (zip ns rs)))
lines_of_rows [] rs h = tt
lines_of_rows (n ∷ ns) [] h = tt
lines_of_rows (n ∷ ns) (r ∷ rs) h = (full_line_is_line n r h.0, lines_of_rows ns rs h.1)

text_of_lines : (rs : List Row) → flat_map canonical_line rs ≡ flat_map (λ line. line ++ 10 ∷ []) (map full_line_cr rs)
text_of_lines [] = refl
text_of_lines (r ∷ rs) =
    ap (λ (x : List ℕ). x ++ flat_map canonical_line rs) (sym (append_assoc (full_line r) (13 ∷ []) (10 ∷ [])))
    ∙ ap (λ (x : List ℕ). ((full_line r ++ 13 ∷ []) ++ 10 ∷ []) ++ x) (text_of_lines rs)

pub canonical_spells : (v : TransmissionValue) → IsTransmission v → Spells v (canonical_text v)
unfolding rows canonical_text
canonical_spells v h = (
  map full_line_cr (rows v),
  lines_of_rows (numbers_of (lengths_of_value v)) (records_of v) (records_in_order v h),
  text_of_lines (rows v),
)

-- ---- as many rows as records

pub length-of_transactions : (i : ℕ) (lengths : List ℕ)
    → length (flat_map (λ p. transaction_numbers p.0 p.1) (enumerate_from i lengths)) ≡ sum lengths
length-of_transactions i [] = refl
length-of_transactions i (n ∷ lengths) =
    length-append (transaction_numbers i n) (flat_map (λ p. transaction_numbers p.0 p.1) (enumerate_from (i + 1) lengths))
    ∙ ap (λ (m : ℕ). m + length (flat_map (λ p. transaction_numbers p.0 p.1) (enumerate_from (i + 1) lengths)))
    (length-map-range_with_len (λ k. i ∷ k ∷ []) 0 n)
    ∙ ap (λ (m : ℕ). n + m) (length-of_transactions (i + 1) lengths)
    ∙ sym (sum_by-cons (λ (x : ℕ). x) n lengths)

pub length-of_group : (i : ℕ) (lengths : List ℕ) → length (group_numbers i lengths) ≡ group_records lengths
length-of_group i lengths =
    let inner = length-of_transactions 0 lengths in
    let split =
    length-append (flat_map (λ p. transaction_numbers p.0 p.1) (enumerate_from 0 lengths))
    (((i + 1) ∷ length lengths ∷ group_records lengths ∷ []) ∷ []) in
    omega (arith, inner, split)

pub length-of_groups : (i : ℕ) (groups : List (List ℕ))
    → length (flat_map (λ p. group_numbers p.0 p.1) (enumerate_from i groups)) ≡ sum_by group_records groups
length-of_groups i [] = refl
length-of_groups i (g ∷ groups) =
    let split = length-append (group_numbers i g) (flat_map (λ p. group_numbers p.0 p.1) (enumerate_from (i + 1) groups)) in
    let rest = length-of_groups (i + 1) groups in
    let head = length-of_group i g in
    let total = sum_by-cons group_records g groups in
    omega (arith, split, rest, head, total)

pub length-numbers_of : (groups : List (List ℕ)) → length (numbers_of groups) ≡ all_records groups
length-numbers_of groups =
    let split =
    length-append (flat_map (λ p. group_numbers p.0 p.1) (enumerate_from 0 groups))
    ((length groups ∷ sum_by length groups ∷ all_records groups ∷ []) ∷ []) in
    omega (arith, split, length-of_groups 0 groups)

pub length-transactions : (ts : List (List RecordValue)) → length (flat_map (λ t. t) ts) ≡ sum (map length ts)
length-transactions [] = refl
length-transactions (t ∷ ts) =
    let split = length-append t (flat_map (λ u. u) ts) in
    let total = sum_by-cons (λ (x : ℕ). x) (length t) (map length ts) in
    omega (arith, split, total, length-transactions ts)

pub length-records_of_group : (g : GroupValue) → length (records_of_group g) ≡ group_records (map length g.transactions)
length-records_of_group g =
    omega (arith, length-append (flat_map (λ t. t) g.transactions) (g.foot ∷ []), length-transactions g.transactions)

pub length-groups : (gs : List GroupValue)
    → length (flat_map records_of_group gs) ≡ sum_by group_records (map (λ g. map length g.transactions) gs)
length-groups [] = refl
length-groups (g ∷ gs) =
    let split = length-append (records_of_group g) (flat_map records_of_group gs) in
    let total = sum_by-cons group_records (map length g.transactions) (map (λ h. map length h.transactions) gs) in
    omega (arith, split, total, length-records_of_group g, length-groups gs)

-- TRL counts the records
pub length-records_of : (v : TransmissionValue) → length (records_of v) ≡ all_records (lengths_of_value v)
length-records_of v = omega (arith, length-append (flat_map records_of_group v.groups) (trailer ∷ []), length-groups v.groups)

-- each record has its numbers
pub length-rows : (v : TransmissionValue) → length (rows v) ≡ length (records_of v)
unfolding rows
length-rows v =
    let pairs = length-map (zip (numbers_of (lengths_of_value v)) (records_of v)) (λ p. row_of p.0 p.1) in
    let zipped = length-zip (numbers_of (lengths_of_value v)) (records_of v) in
    omega (arith, pairs, zipped, length-numbers_of (lengths_of_value v), length-records_of v)
