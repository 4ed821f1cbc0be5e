-- The lines of a record, field by field.
use Rattle.std.specs.Prelude.{ℕ, List, [], Option, Some}
use Rattle.cwr_fields.specs.Format.Layouts.{FieldLayout}
use Rattle.cwr_lines.specs.Format.Records.{RecordValue}
use Rattle.cwr_lines.specs.Format.Carried.{carried_at, record_cell}
use Rattle.cwr_notes.specs.Format.RecordTexts.{cell_line}

-- the line of a cell of a field, where both are there
abbrev pub line_of : ℕ → Option FieldLayout → Option (List ℕ) → List ℕ
line_of j (Some f) (Some cell) = cell_line j f cell
line_of j f cell = []

-- the line of the cell that the record carries in field j
abbrev pub field_line : RecordValue → ℕ → List ℕ
field_line r j = line_of j (carried_at r.kind j) (record_cell r j)
