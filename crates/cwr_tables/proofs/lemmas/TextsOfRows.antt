-- The text of a row is that of its numbers, and then that of its other cells.
use Rattle.std.proofs.Common.{◌≡◌, ℕ, Bool, true, false, cond, List, [], ◌∷◌, ◌++◌, refl, sym, ap, ◌∙◌, append_assoc, append-nil}
use Rattle.std.specs.Prelude.{codes, decimal, map}
use Rattle.std.proofs.lemmas.Grind.{flat_map-append}
use Rattle.cwr_fields.specs.declared.kinds.Kind.{Kind}
use Rattle.cwr_fields.specs.Format.Kinds.{is_in_transaction}
use Rattle.cwr_json.specs.Format.Forms.{key_of}
use Rattle.cwr_lines.specs.Format.Records.{RecordValue, carried_fields}
use Rattle.cwr_values.specs.Format.Rows.{trailer}
use Rattle.cwr_json.specs.declared.encodings.Encoding.{Encoding}
use Rattle.cwr_tables.specs.declared.places.RowNumbers.{RowNumbers}
use Rattle.cwr_tables.specs.declared.places.RowNumbers.TheVariants.{Outside, InGroup, InTransaction}
use Rattle.cwr_tables.specs.Format.Headers.{header_columns, work_number, work_title}
use Rattle.cwr_tables.specs.Format.Tables.{cell_text, row_text}
use Rattle.cwr_tables.specs.Format.RecordTables.{header_cells, heading, inner_row, number_cells, number_columns, record_row, shown_cell}
use Rattle.cwr_tables.specs.Steps.RowTexts.{header_heading, header_text, named_columns, next_cell, next_cells, numbers_heading}
use Rattle.cwr_tables.specs.Steps.RowTexts.{numbers_text, shown_cells}

ends : (numbers : RowNumbers) (cells : List (List ℕ))
    → row_text (number_cells numbers ++ cells) ≡ (numbers_text numbers ++ next_cells cells) ++ codes "\r\n"
unfolding row_text cell_text
ends Outside cells = refl
ends (InGroup group) cells =
    ap (λ (l : List ℕ). l ++ codes "\r\n") (sym (append_assoc (cell_text (decimal group)) (codes ",,") (next_cells cells)))
ends (InTransaction group transaction sequence) cells =
    let one : List ℕ = cell_text (decimal group) in
    let two : List ℕ = next_cell (decimal transaction) in
    let three : List ℕ = next_cell (decimal sequence) in
    ap (λ (l : List ℕ). l ++ codes "\r\n")
    (sym (append_assoc one two (three ++ next_cells cells)) ∙ sym (append_assoc (one ++ two) three (next_cells cells)))

pub row_is : (enc : Encoding) (numbers : RowNumbers) (r : RecordValue)
    → (numbers_text numbers ++ shown_cells enc r) ++ codes "\r\n" ≡ record_row enc numbers r
unfolding shown_cells
row_is enc numbers r = sym (ends numbers (map (shown_cell enc) r.cells))

pub trailer_is : (enc : Encoding) → codes ",,\r\n" ≡ record_row enc Outside trailer
unfolding row_text cell_text
trailer_is enc = refl

-- with what the row says of its transaction
header_is : (enc : Encoding) (head : RecordValue) → next_cells (header_cells enc head) ≡ header_text enc head
header_is enc head =
    ap (λ (l : List ℕ). next_cell (shown_cell enc (work_number head)) ++ l) (append-nil (next_cell (shown_cell enc (work_title head))))

pub inner_row_is : (enc : Encoding) (head : RecordValue) (numbers : RowNumbers) (r : RecordValue)
    → ((numbers_text numbers ++ shown_cells enc r) ++ header_text enc head) ++ codes "\r\n" ≡ inner_row enc head numbers r
unfolding shown_cells
inner_row_is enc head numbers r =
    let own : List (List ℕ) = map (shown_cell enc) r.cells in
    ap (λ (l : List ℕ). l ++ codes "\r\n")
    (append_assoc (numbers_text numbers) (next_cells own) (header_text enc head)
    ∙ ap (λ (l : List ℕ). numbers_text numbers ++ l)
    (ap (λ (l : List ℕ). next_cells own ++ l) (sym (header_is enc head))
    ∙ sym (flat_map-append next_cell own (header_cells enc head))))
    ∙ sym (ends numbers (own ++ header_cells enc head))

-- ---- headings

heading_of : (cells : List (List ℕ)) → (numbers_heading ++ next_cells cells) ++ codes "\r\n" ≡ row_text (number_columns ++ cells)
unfolding row_text cell_text
heading_of cells = refl

last_columns : (inside : Bool)
    → next_cells (cond inside (codes "_work" ∷ codes "_title" ∷ []) []) ≡ cond inside (codes ",_work,_title") []
unfolding cell_text
last_columns true = refl
last_columns false = refl

pub heading_is : (this_kind : Kind)
    → ((numbers_heading ++ named_columns this_kind) ++ header_heading this_kind) ++ codes "\r\n" ≡ heading this_kind
unfolding named_columns
heading_is this_kind =
    let own : List (List ℕ) = map (λ f. key_of f.name) (carried_fields this_kind) in
    ap (λ (l : List ℕ). l ++ codes "\r\n")
    (append_assoc numbers_heading (next_cells own) (header_heading this_kind)
    ∙ ap (λ (l : List ℕ). numbers_heading ++ l)
    (ap (λ (l : List ℕ). next_cells own ++ l) (sym (last_columns (is_in_transaction this_kind)))
    ∙ sym (flat_map-append next_cell own (header_columns this_kind))))
    ∙ heading_of (own ++ header_columns this_kind)
