-- The row of a record depends on the records before it alone.
use Rattle.std.proofs.Common.{◌≡◌, ℕ, suc, List, [], ◌∷◌, ◌++◌, length, map, refl, sym, ap, ap₂, ◌∙◌, append_assoc, append-nil}
use Rattle.std.specs.Prelude.{take}
use Rattle.std.specs.List.{zip}
use Rattle.std.proofs.lemmas.List.{map-append, length-map}
use Rattle.cwr_fields.specs.declared.codes.TransactionType.{TransactionType}
use Rattle.cwr_fields.specs.declared.codes.TransactionType.TheVariants.{Acknowledgement}
use Rattle.cwr_fields.specs.declared.kinds.Kind.{Kind}
use Rattle.cwr_fields.specs.declared.kinds.Kind.TheVariants as kinds
use Rattle.cwr_lines.specs.Format.Records.{RecordValue, Row, row_of}
use Rattle.cwr_shape.specs.declared.symbols.Symbol.{Symbol}
use Rattle.cwr_shape.specs.declared.tallies.Counts.{Counts}
use Rattle.cwr_shape.specs.Format.Numbers.{numbers_of, lengths_of, symbol_kind}
use Rattle.cwr_shape.specs.Format.NextSymbols.{type_after, open_type, counts_of}
use Rattle.cwr_shape.specs.Format.ExpectedNumbers.{expected_numbers}
use Rattle.cwr_shape.specs.Steps.Counting.{counts_with}
use Rattle.cwr_shape.proofs.lemmas.OneMore.{open_type-snoc, counts-snoc}
use Rattle.cwr_shape.proofs.lemmas.TransactionNumbers.{walk}
use Rattle.cwr_shape.proofs.lemmas.NumbersAreCounted.{walks_whole}
use Rattle.cwr_values.specs.Format.Values.{GroupValue, TransmissionValue, IsTransmission, symbol_of, symbol_by, outline_of}
use Rattle.cwr_values.specs.Format.Values.{outline_of_group}
use Rattle.cwr_values.specs.Format.Rows.{records_of, lengths_of_value, rows}
use Rattle.cwr_values.specs.Format.Begins.{row_after, rows_after, rows_so_far}
use Rattle.cwr_values.proofs.lemmas.OneSpelling.{symbols-outline, outline_whole}

-- ---- lengths are those of the outline

transactions_lengths : (ts : List (List RecordValue)) → map length (map (map symbol_of) ts) ≡ map length ts
transactions_lengths [] = refl
transactions_lengths (t ∷ ts) = ap₂ (λ (n : ℕ) (ns : List ℕ). n ∷ ns) (length-map t symbol_of) (transactions_lengths ts)

groups_lengths : (gs : List GroupValue) → lengths_of (map outline_of_group gs) ≡ map (λ g. map length g.transactions) gs
groups_lengths [] = refl
groups_lengths (g ∷ gs) =
    ap₂ (λ (n : List ℕ) (ns : List (List ℕ)). n ∷ ns) (transactions_lengths g.transactions) (groups_lengths gs)

-- ---- counters give the rows

-- a record has its symbol's kind
pub kind_of_symbol : (r : RecordValue) → symbol_kind (symbol_of r) ≡ r.kind
kind_of_symbol r = by r.kind
  where
    by : (k : Kind) → symbol_kind (symbol_by k r) ≡ k
    by kinds.Ipa = refl
    by kinds.Grh = refl
    by k = refl

rows_walked : (before rs : List RecordValue)
    → map (λ p. row_of p.0 p.1)
    (zip (walk (open_type (map symbol_of before)) (counts_of (map symbol_of before)) (map symbol_of rs)) rs) ≡ rows_after
    before rs
unfolding rows_after
rows_walked before [] = refl
rows_walked before (r ∷ rs) =
    let xs : List Symbol = map symbol_of before in
    let s : Symbol = symbol_of r in
    let grown : map symbol_of (before ++ r ∷ []) ≡ xs ++ s ∷ [] = map-append symbol_of before (r ∷ []) in
    let ty : type_after (open_type xs) s ≡ open_type (map symbol_of (before ++ r ∷ [])) =
    sym (open_type-snoc xs s) ∙ sym (ap open_type grown) in
    let counts : counts_with (open_type xs) (counts_of xs) s ≡ counts_of (map symbol_of (before ++ r ∷ [])) =
    counts-snoc xs s ∙ sym (ap counts_of grown) in
    ap₂ (λ (a : Row) (l : List Row). a ∷ l)
    (ap (λ (k : Kind). row_of (expected_numbers (open_type xs) (counts_of xs) k) r) (kind_of_symbol r))
    (ap₂ (λ (t : TransactionType) (c : Counts). map (λ p. row_of p.0 p.1) (zip (walk t c (map symbol_of rs)) rs)) ty counts
    ∙ rows_walked (before ++ r ∷ []) rs)

-- the rows of a transmission are those of its records, one after another
pub rows_whole : (v : TransmissionValue) → IsTransmission v → rows v ≡ rows_so_far (records_of v)
unfolding rows
rows_whole v h =
    let numbers : numbers_of (lengths_of_value v) ≡ walk (open_type []) (counts_of []) (map symbol_of (records_of v)) =
    sym (ap numbers_of (groups_lengths v.groups)) ∙ sym (walks_whole (outline_of v) (outline_whole v h))
    ∙ ap (walk Acknowledgement (counts_of [])) (symbols-outline v h) in
    ap (λ (ns : List (List ℕ)). map (λ p. row_of p.0 p.1) (zip ns (records_of v))) numbers ∙ rows_walked [] (records_of v)

-- ---- more records

pub rows_after-append : (before xs ys : List RecordValue)
    → rows_after before (xs ++ ys) ≡ rows_after before xs ++ rows_after (before ++ xs) ys
unfolding rows_after
rows_after-append before [] ys = ap (λ (b : List RecordValue). rows_after b ys) (sym (append-nil before))
rows_after-append before (x ∷ xs) ys =
    ap (λ (l : List Row). row_after before x ∷ l)
    (rows_after-append (before ++ x ∷ []) xs ys
    ∙ ap (λ (b : List RecordValue). rows_after (before ++ x ∷ []) xs ++ rows_after b ys) (append_assoc before (x ∷ []) xs))

-- one more record has one more row
pub rows_so_far-snoc : (rs : List RecordValue) (r : RecordValue)
    → rows_so_far (rs ++ r ∷ []) ≡ rows_so_far rs ++ row_after rs r ∷ []
unfolding rows_after
rows_so_far-snoc rs r = rows_after-append [] rs (r ∷ [])

-- as many rows as records
pub length-rows_after : (before rs : List RecordValue) → length (rows_after before rs) ≡ length rs
unfolding rows_after
length-rows_after before [] = refl
length-rows_after before (r ∷ rs) = ap suc (length-rows_after (before ++ r ∷ []) rs)

pub length-rows_so_far : (rs : List RecordValue) → length (rows_so_far rs) ≡ length rs
length-rows_so_far rs = length-rows_after [] rs

-- a transmission's rows begin with those of the records that it begins with
pub rows_split : (v : TransmissionValue) (before after : List RecordValue) → IsTransmission v → records_of v ≡ before ++ after
    → rows v ≡ rows_so_far before ++ rows_after before after
rows_split v before after h e = rows_whole v h ∙ ap rows_so_far e ∙ rows_after-append [] before after

pub rows_begin : (v : TransmissionValue) (before after : List RecordValue) → IsTransmission v → records_of v ≡ before ++ after
    → (rest : List Row) × (rows v ≡ rows_so_far before ++ rest)
rows_begin v before after h e = (rows_after before after, rows_split v before after h e)

-- the row of one record, by the records before it
pub record RowAt (v : TransmissionValue) (before : List RecordValue) (r : RecordValue) : Type 0 where
  pub front : List Row
  pub rest : List Row
  pub split : rows v ≡ front ++ row_after before r ∷ rest
  pub as_many : length front ≡ length before

-- transmissions that begin with the same records begin with the same rows
pub same_rows : (v w : TransmissionValue) (before rest others : List RecordValue) → IsTransmission v → IsTransmission w
    → records_of v ≡ before ++ rest → records_of w ≡ before ++ others
    → take (length before) (rows v) ≡ take (length before) (rows w)
same_rows v w before rest others h k e f =
    front (rows v) (rows_after before rest) (rows_split v before rest h e)
    ∙ sym (front (rows w) (rows_after before others) (rows_split w before others k f))
  where
    taken : (xs ys : List Row) → take (length xs) (xs ++ ys) ≡ xs
    taken [] ys = refl
    taken (x ∷ xs) ys = ap (λ (l : List Row). x ∷ l) (taken xs ys)

    front : (rs more : List Row) → rs ≡ rows_so_far before ++ more → take (length before) rs ≡ rows_so_far before
    front rs more d =
        ap₂ (λ (n : ℕ) (l : List Row). take n l) (sym (length-rows_so_far before)) d ∙ taken (rows_so_far before) more
