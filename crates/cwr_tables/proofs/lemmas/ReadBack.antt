-- Rows are read back as their cells.
use Rattle.std.proofs.Common.{◌≡◌, ℕ, zero, suc, ◌+◌, ◌≤◌, Bool, true, false, cond, List, [], ◌∷◌, ◌++◌, length, Some, refl, sym}
use Rattle.std.proofs.Common.{ap, ap₂, ◌∙◌, inl, inr, arith, append_assoc}
use Rattle.std.specs.Prelude.{◌==◌, ◌||◌}
use Rattle.std.specs.List.{AllByRecursion, flat_map, list_any}
use Rattle.std.proofs.lemmas.Bool.{cases_Bool, eqb-true}
use Rattle.std.proofs.lemmas.List.{length-append}
use Rattle.csv.specs.Machine.{next_record}
use Rattle.csv.specs.Reading.{default_config, records_from, records_next}
use Rattle.csv.specs.Writing.{default_writer, escaped, field_text, needs_byte}
use Rattle.csv.specs.declared.parser.State.TheVariants as st
use Rattle.csv.proofs.RoundTrip.{field-run, record-same}
use Rattle.cwr_tables.specs.Format.Tables.{calls_for_quotes, cell_text, doubled, row_text}
use Rattle.cwr_tables.specs.Format.Laws.{HasTwo, RowsReadBack}
use Rattle.cwr_tables.specs.Steps.RowTexts.{next_cells}

-- ---- a cell as the reader's own crate writes it

same_test : (a q r n : Bool) → ((a || q) || r || n) ≡ ((a || q || (r || n) || false) || false)
same_test true q r n = refl
same_test false true r n = refl
same_test false false true n = refl
same_test false false false true = refl
same_test false false false false = refl

calls_same : (b : ℕ) → calls_for_quotes b ≡ needs_byte default_writer b
calls_same b = same_test (b == 44) (b == 34) (b == 13) (b == 10)

any_same : (cell : List ℕ) → list_any calls_for_quotes cell ≡ list_any (needs_byte default_writer) cell
any_same [] = refl
any_same (b ∷ cell) = ap₂ (λ (x y : Bool). x || y) (calls_same b) (any_same cell)

doubled_same : (cell : List ℕ) → flat_map doubled cell ≡ escaped default_writer cell
unfolding escaped
doubled_same [] = refl
doubled_same (b ∷ cell) = elim (cases_Bool (b == 34)) [
  | inl same ↦ rw same (ap₂ (λ (c : ℕ) (l : List ℕ). 34 ∷ c ∷ l) (sym (eqb-true b 34 same)) (doubled_same cell))
  | inr other ↦ rw other (ap (λ (l : List ℕ). b ∷ l) (doubled_same cell))
]

cell_same : (cell : List ℕ) → cell_text cell ≡ field_text default_writer cell
unfolding cell_text
cell_same cell =
    ap₂ (λ (b : Bool) (l : List ℕ). cond b (34 ∷ (l ++ 34 ∷ [])) cell) (any_same cell) (doubled_same cell)

-- ---- what stands after a cell

-- the end of a row, and what comes after it
abbrev ended : List ℕ → List ℕ
ended tail = 13 ∷ 10 ∷ tail

abbrev head_of : List (List ℕ) → ℕ
head_of [] = 13
head_of (z ∷ zs) = 44

abbrev tail_of : List (List ℕ) → List ℕ → List ℕ
tail_of [] tail = 10 ∷ tail
tail_of (z ∷ zs) tail = (cell_text z ++ next_cells zs) ++ ended tail

text_head : (cells : List (List ℕ)) (tail : List ℕ) → next_cells cells ++ ended tail ≡ head_of cells ∷ tail_of cells tail
text_head [] tail = refl
text_head (z ∷ zs) tail = refl

head_plain : (cells : List (List ℕ)) → (head_of cells == 34) ≡ false
head_plain [] = refl
head_plain (z ∷ zs) = refl

-- a cell, from its start
cell_read : (fields : List (List ℕ)) (cell : List ℕ) (cells : List (List ℕ)) (tail : List ℕ)
    → next_record default_config st.StartField fields [] (cell_text cell ++ (next_cells cells ++ ended tail))
    ≡ next_record default_config st.InField fields cell (next_cells cells ++ ended tail)
cell_read fields cell cells tail =
    ap₂ (λ (l m : List ℕ). next_record default_config st.StartField fields [] (l ++ m)) (cell_same cell) (text_head cells tail)
    ∙ field-run fields cell (head_of cells) (tail_of cells tail) (head_plain cells)
    ∙ ap (next_record default_config st.InField fields cell) (sym (text_head cells tail))

comma_read : (fields : List (List ℕ)) (cell text : List ℕ) → next_record default_config st.InField fields cell (44 ∷ text)
    ≡ next_record default_config st.StartField (fields ++ cell ∷ []) [] text
unfolding next_record
comma_read fields cell text = refl

-- the rest of a row, after a cell
rest_read : (fields : List (List ℕ)) (cell : List ℕ) (cells : List (List ℕ)) (tail : List ℕ)
    → next_record default_config st.InField fields cell (next_cells cells ++ ended tail)
    ≡ Some (fields ++ cell ∷ cells, st.AfterCr, 10 ∷ tail)
unfolding next_record
rest_read fields cell [] tail = refl
rest_read fields cell (z ∷ zs) tail =
    comma_read fields cell ((cell_text z ++ next_cells zs) ++ ended tail)
    ∙ ap (next_record default_config st.StartField (fields ++ cell ∷ []) [])
    (append_assoc (cell_text z) (next_cells zs) (ended tail))
    ∙ cell_read (fields ++ cell ∷ []) z zs tail
    ∙ rest_read (fields ++ cell ∷ []) z zs tail
    ∙ ap (λ (l : List (List ℕ)). Some (l, st.AfterCr, 10 ∷ tail)) (append_assoc fields (cell ∷ []) (z ∷ zs))

-- ---- the start of a row

or_left : (a b : Bool) → (a || b) ≡ false → a ≡ false
or_left false b e = refl
or_left true b e = cc e

or_right : (a b : Bool) → (a || b) ≡ false → b ≡ false
or_right false b e = e
or_right true b e = cc e

-- a cell before a comma starts a row as it starts a field
first_by : (cell : List ℕ) (b : Bool) (text : List ℕ) → list_any calls_for_quotes cell ≡ b
    → next_record default_config st.StartRecord [] [] (cond b (34 ∷ (flat_map doubled cell ++ 34 ∷ [])) cell ++ (44 ∷ text))
    ≡ next_record default_config st.StartField [] [] (cond b (34 ∷ (flat_map doubled cell ++ 34 ∷ [])) cell ++ (44 ∷ text))
first_by cell true text e = record-same [] [] 34 ((flat_map doubled cell ++ 34 ∷ []) ++ (44 ∷ text)) refl refl
first_by [] false text e = record-same [] [] 44 text refl refl
first_by (c ∷ cell) false text e =
    let calls : calls_for_quotes c ≡ false = or_left (calls_for_quotes c) (list_any calls_for_quotes cell) e in
    record-same [] [] c (cell ++ (44 ∷ text))
    (or_right ((c == 44) || (c == 34)) (c == 13) (or_left ((c == 44) || (c == 34) || (c == 13)) (c == 10) calls))
    (or_right ((c == 44) || (c == 34) || (c == 13)) (c == 10) calls)

first_read : (cell text : List ℕ) → next_record default_config st.StartRecord [] [] (cell_text cell ++ (44 ∷ text))
    ≡ next_record default_config st.StartField [] [] (cell_text cell ++ (44 ∷ text))
unfolding cell_text
first_read cell text = first_by cell (list_any calls_for_quotes cell) text refl

row_read : (row : List (List ℕ)) (tail : List ℕ) → HasTwo row
    → next_record default_config st.StartRecord [] [] (row_text row ++ tail) ≡ Some (row, st.AfterCr, 10 ∷ tail)
unfolding row_text
row_read [] tail h = absurd (omega (arith, h))
row_read (x ∷ []) tail h = absurd (omega (arith, h))
row_read (x ∷ y ∷ cells) tail h =
    let others : List ℕ = next_cells (y ∷ cells) in
    ap (next_record default_config st.StartRecord [] [])
    (append_assoc (cell_text x ++ others) (13 ∷ 10 ∷ []) tail ∙ append_assoc (cell_text x) others (ended tail))
    ∙ first_read x ((cell_text y ++ next_cells cells) ++ ended tail)
    ∙ cell_read [] x (y ∷ cells) tail
    ∙ rest_read [] x (y ∷ cells) tail

-- ---- rows

cr_skipped : (n : ℕ) (tail : List ℕ)
    → records_from default_config n st.AfterCr (10 ∷ tail) ≡ records_from default_config n st.StartRecord tail
unfolding records_from next_record
cr_skipped zero tail = refl
cr_skipped (suc n) tail = refl

rows_read : (rows : List (List (List ℕ))) (n : ℕ) → AllByRecursion HasTwo rows → length rows ≤ n
    → records_from default_config n st.StartRecord (flat_map row_text rows) ≡ rows
unfolding records_from next_record
rows_read [] zero h few = refl
rows_read [] (suc n) h few = refl
rows_read (row ∷ rows) zero h few = absurd (omega (arith, few))
rows_read (row ∷ rows) (suc n) h few =
    ap (records_next (records_from default_config n)) (row_read row (flat_map row_text rows) h.0)
    ∙ ap (λ (l : List (List (List ℕ))). row ∷ l)
    (cr_skipped n (flat_map row_text rows) ∙ rows_read rows n h.1 (omega (arith, few)))

row_long : (row : List (List ℕ)) → 1 ≤ length (row_text row)
unfolding row_text
row_long [] = omega arith
row_long (x ∷ cells) = omega (arith, length-append (cell_text x ++ next_cells cells) (13 ∷ 10 ∷ []))

enough : (rows : List (List (List ℕ))) → length rows ≤ length (flat_map row_text rows)
enough [] = omega arith
enough (row ∷ rows) = omega (arith, enough rows, row_long row, length-append (row_text row) (flat_map row_text rows))

pub rows_read_back : RowsReadBack
rows_read_back rows h = rows_read rows (length (flat_map row_text rows) + 1) h (omega (arith, enough rows))
