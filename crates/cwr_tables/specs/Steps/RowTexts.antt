-- The text of a row, cell by cell.
use Rattle.std.specs.Prelude.{ℕ, List, [], ◌++◌, codes, decimal, Option, Some, None, map, if◌then◌else◌}
use Rattle.std.specs.List.{flat_map}
use Rattle.cwr_fields.specs.declared.kinds.Kind.{Kind}
use Rattle.cwr_fields.specs.Format.Kinds.{is_in_transaction}
use Rattle.cwr_fields.specs.Format.Layouts.{FieldLayout}
use Rattle.cwr_lines.specs.Format.Records.{RecordValue, carried_fields}
use Rattle.cwr_lines.specs.Format.Carried.{carried_at, record_cell}
use Rattle.cwr_json.specs.declared.encodings.Encoding.{Encoding}
use Rattle.cwr_json.specs.Format.Forms.{key_of}
use Rattle.cwr_tables.specs.declared.places.RowNumbers.{RowNumbers}
use Rattle.cwr_tables.specs.declared.places.RowNumbers.TheVariants.{Outside, InGroup, InTransaction}
use Rattle.cwr_tables.specs.Format.Headers.{work_number, work_title}
use Rattle.cwr_tables.specs.Format.Tables.{cell_text}
use Rattle.cwr_tables.specs.Format.RecordTables.{shown_cell}

-- a cell after others
abbrev pub next_cell : List ℕ → List ℕ
next_cell cell = codes "," ++ cell_text cell

abbrev pub next_cells : List (List ℕ) → List ℕ
next_cells cells = flat_map next_cell cells

-- the first cells of a row
abbrev pub numbers_text : RowNumbers → List ℕ
numbers_text Outside = codes ",,"
numbers_text (InGroup group) = cell_text (decimal group) ++ codes ",,"
numbers_text (InTransaction group transaction sequence) =
    cell_text (decimal group) ++ next_cell (decimal transaction) ++ next_cell (decimal sequence)

-- the first columns
abbrev pub numbers_heading : List ℕ
numbers_heading = codes "group,transaction,record"

-- the cells of the fields that a record carries
unfoldable pub shown_cells : Encoding → RecordValue → List ℕ
shown_cells enc r = next_cells (map (shown_cell enc) r.cells)

-- that of one field, where the record carries it
abbrev pub shown_of : Encoding → Option (List ℕ) → List ℕ
shown_of enc None = []
shown_of enc (Some cell) = next_cell (shown_cell enc cell)

abbrev pub field_cell : Encoding → RecordValue → ℕ → List ℕ
field_cell enc r j = shown_of enc (record_cell r j)

-- the names of the fields that records of a kind carry
unfoldable pub named_columns : Kind → List ℕ
named_columns this_kind = next_cells (map (λ f. key_of f.name) (carried_fields this_kind))

abbrev pub name_of : Option FieldLayout → List ℕ
name_of None = []
name_of (Some f) = next_cell (key_of f.name)

abbrev pub column_of : Kind → ℕ → List ℕ
column_of this_kind j = name_of (carried_at this_kind j)

-- the names of the last columns of a kind
abbrev pub header_heading : Kind → List ℕ
header_heading this_kind = if is_in_transaction this_kind then codes ",_work,_title" else []

-- what a row says of its transaction
abbrev pub header_text : Encoding → RecordValue → List ℕ
header_text enc head = next_cell (shown_cell enc (work_number head)) ++ next_cell (shown_cell enc (work_title head))
