-- The cells of a record under their labels. A label begins with the end of the line before, so that a cell's line ends where the next
-- begins.
use Rattle.std.specs.Prelude.{ℕ, zero, suc, List, [], ◌∷◌, ◌++◌, codes, decimal, map, if◌then◌else◌, Option, Some}
use Rattle.std.specs.List.{enumerate_from}
use Rattle.cwr_fields.specs.Format.Bytes.{is_spaces, trimmed}
use Rattle.cwr_fields.specs.Format.Layouts.{FieldLayout}
use Rattle.cwr_lines.specs.Format.Records.{RecordValue}
use Rattle.cwr_lines.specs.Format.Carried.{carried_at, record_cell}

-- the label of field j: a line feed, two spaces, its number and its name
abbrev pub label_of : ℕ → FieldLayout → List ℕ
label_of j f = (10 ∷ codes "  ") ++ decimal j ++ codes " " ++ f.name ++ codes ": "

-- the labels of fields, numbered from 1
abbrev pub labels_of : List FieldLayout → List (List ℕ)
labels_of fields = map (λ p. label_of p.0 p.1) (enumerate_from 1 fields)

-- a cell under its label, unless it is blank
abbrev pub labelled_cell : List ℕ → List ℕ → List ℕ
labelled_cell label cell = if is_spaces cell then [] else label ++ trimmed cell

-- the cell of a field under its label, where both are there
abbrev pub labelled : ℕ → Option FieldLayout → Option (List ℕ) → List ℕ
labelled j (Some f) (Some cell) = labelled_cell (label_of j f) cell
labelled j f cell = []

-- the cell that the record carries in field j, under its label
abbrev pub labelled_field : RecordValue → ℕ → List ℕ
labelled_field r j = labelled j (carried_at r.kind j) (record_cell r j)

-- the cells that the record carries in its first fields, each under its label
abbrev pub labelled_cells : RecordValue → ℕ → List ℕ
labelled_cells r zero = []
labelled_cells r (suc i) = labelled_cells r i ++ labelled_field r (suc i)
