-- The rows of a transmission, group by group and transaction by transaction.
use Rattle.std.proofs.Common.{◌≡◌, ℕ, zero, suc, ◌+◌, List, [], ◌∷◌, ◌++◌, length, map, refl, sym, ap, ap₂, ◌∙◌, arith}
use Rattle.std.specs.Prelude.{sum_by}
use Rattle.std.specs.List.{flat_map, zip, range_with_len, enumerate_from}
use Rattle.cwr_lines.specs.Format.Records.{RecordValue, Row, row_of}
use Rattle.cwr_shape.specs.Format.Numbers.{group_numbers, transaction_numbers, group_records, all_records}
use Rattle.cwr_values.specs.Format.Values.{GroupValue, TransmissionValue}
use Rattle.cwr_values.specs.Format.Rows.{records_of_group, trailer, lengths_of_value, rows}
use Rattle.cwr_values.proofs.lemmas.Spelling.{length-of_group, length-of_groups, length-of_transactions, length-groups}
use Rattle.cwr_values.proofs.lemmas.Spelling.{length-records_of_group, length-transactions}

-- records with their numbers, one by one
abbrev pub numbered_rows : List (List ℕ) → List RecordValue → List Row
numbered_rows ns rs = map (λ p. row_of p.0 p.1) (zip ns rs)

numbered-append : (ms ns : List (List ℕ)) (rs ss : List RecordValue) → length ms ≡ length rs
    → numbered_rows (ms ++ ns) (rs ++ ss) ≡ numbered_rows ms rs ++ numbered_rows ns ss
numbered-append [] ns [] ss e = refl
numbered-append [] ns (r ∷ rs) ss e = absurd (omega arith)
numbered-append (m ∷ ms) ns [] ss e = absurd (omega arith)
numbered-append (m ∷ ms) ns (r ∷ rs) ss e = ap (λ (xs : List Row). row_of m r ∷ xs) (numbered-append ms ns rs ss (omega arith))

-- the rows of a transaction's records from record k on
abbrev pub rows_inside : ℕ → ℕ → List RecordValue → List Row
rows_inside j k [] = []
rows_inside j k (r ∷ rs) = row_of (j ∷ k ∷ []) r ∷ rows_inside j (k + 1) rs

-- the rows of a group's transactions from transaction j on
abbrev pub rows_of_transactions : ℕ → List (List RecordValue) → List Row
rows_of_transactions j [] = []
rows_of_transactions j (t ∷ ts) = rows_inside j 0 t ++ rows_of_transactions (j + 1) ts

-- the row of a group's GRT
abbrev pub foot_row : ℕ → GroupValue → Row
foot_row i g = row_of ((i + 1) ∷ length (map length g.transactions) ∷ group_records (map length g.transactions) ∷ []) g.foot

-- the rows of group i
abbrev pub rows_of_group : ℕ → GroupValue → List Row
rows_of_group i g = row_of ((i + 1) ∷ []) g.head ∷ rows_of_transactions 0 g.transactions ++ foot_row i g ∷ []

-- the rows of groups from group i on
abbrev pub rows_of_groups : ℕ → List GroupValue → List Row
rows_of_groups i [] = []
rows_of_groups i (g ∷ gs) = rows_of_group i g ++ rows_of_groups (i + 1) gs

-- the row of TRL
abbrev pub trailer_row : TransmissionValue → Row
trailer_row v =
    row_of (length (lengths_of_value v) ∷ sum_by length (lengths_of_value v) ∷ all_records (lengths_of_value v) ∷ []) trailer

numbered-inside : (j k : ℕ) (rs : List RecordValue)
    → numbered_rows (map (λ m. j ∷ m ∷ []) (range_with_len k (length rs))) rs ≡ rows_inside j k rs
numbered-inside j k [] = refl
numbered-inside j k (r ∷ rs) = ap (λ (xs : List Row). row_of (j ∷ k ∷ []) r ∷ xs) (numbered-inside j (k + 1) rs)

abbrev numbers_from : ℕ → List (List RecordValue) → List (List ℕ)
numbers_from j ts = flat_map (λ p. transaction_numbers p.0 p.1) (enumerate_from j (map length ts))

length-transaction_numbers : (j k n : ℕ) → length (map (λ m. j ∷ m ∷ []) (range_with_len k n)) ≡ n
length-transaction_numbers j k zero = refl
length-transaction_numbers j k (suc n) = omega (arith, length-transaction_numbers j (k + 1) n)

numbered-transactions : (j : ℕ) (ts : List (List RecordValue))
    → numbered_rows (numbers_from j ts) (flat_map (λ t. t) ts) ≡ rows_of_transactions j ts
numbered-transactions j [] = refl
numbered-transactions j (t ∷ ts) =
    numbered-append (transaction_numbers j (length t)) (numbers_from (j + 1) ts) t (flat_map (λ u. u) ts)
    (length-transaction_numbers j 0 (length t))
    ∙ ap₂ (λ (xs ys : List Row). xs ++ ys) (numbered-inside j 0 t) (numbered-transactions (j + 1) ts)

numbered-group : (i : ℕ) (g : GroupValue)
    → numbered_rows (group_numbers i (map length g.transactions)) (records_of_group g) ≡ rows_of_group i g
numbered-group i g =
    let same : length (numbers_from 0 g.transactions) ≡ length (flat_map (λ t. t) g.transactions) =
    length-of_transactions 0 (map length g.transactions) ∙ sym (length-transactions g.transactions) in
    ap (λ (xs : List Row). row_of ((i + 1) ∷ []) g.head ∷ xs)
    (numbered-append (numbers_from 0 g.transactions)
    (((i + 1) ∷ length (map length g.transactions) ∷ group_records (map length g.transactions) ∷ []) ∷ [])
    (flat_map (λ t. t) g.transactions) (g.foot ∷ []) same
    ∙ ap (λ (xs : List Row). xs ++ foot_row i g ∷ []) (numbered-transactions 0 g.transactions))

numbered-groups : (i : ℕ) (gs : List GroupValue)
    → numbered_rows (flat_map (λ p. group_numbers p.0 p.1) (enumerate_from i (map (λ g. map length g.transactions) gs)))
    (flat_map records_of_group gs) ≡ rows_of_groups i gs
numbered-groups i [] = refl
numbered-groups i (g ∷ gs) =
    numbered-append (group_numbers i (map length g.transactions))
    (flat_map (λ p. group_numbers p.0 p.1) (enumerate_from (i + 1) (map (λ f. map length f.transactions) gs)))
    (records_of_group g) (flat_map records_of_group gs)
    (length-of_group i (map length g.transactions) ∙ sym (length-records_of_group g))
    ∙ ap₂ (λ (xs ys : List Row). xs ++ ys) (numbered-group i g) (numbered-groups (i + 1) gs)

-- the rows of a transmission: HDR, the groups, TRL
pub rows-parts : (v : TransmissionValue) → rows v ≡ row_of [] v.opening ∷ rows_of_groups 0 v.groups ++ trailer_row v ∷ []
unfolding rows
rows-parts v =
    ap (λ (xs : List Row). row_of [] v.opening ∷ xs)
    (numbered-append (flat_map (λ p. group_numbers p.0 p.1) (enumerate_from 0 (lengths_of_value v)))
    ((length (lengths_of_value v) ∷ sum_by length (lengths_of_value v) ∷ all_records (lengths_of_value v) ∷ []) ∷ [])
    (flat_map records_of_group v.groups) (trailer ∷ [])
    (groups_same 0 v.groups)
    ∙ ap (λ (xs : List Row). xs ++ trailer_row v ∷ []) (numbered-groups 0 v.groups))
  where
    groups_same : (i : ℕ) (gs : List GroupValue)
        → length (flat_map (λ p. group_numbers p.0 p.1) (enumerate_from i (map (λ g. map length g.transactions) gs)))
        ≡ length (flat_map records_of_group gs)
    groups_same i gs = length-of_groups i (map (λ g. map length g.transactions) gs) ∙ sym (length-groups gs)
