-- The carried cells of a record, found by their fields, set and judged.
use Rattle.std.specs.Prelude.{◌≡◌, ◌≢◌, ℕ, ◌-◌, ◌<◌, ◌≤◌, IsTrue, not, List, length, filter, take, Option, Some, None, IfSome}
use Rattle.std.specs.Prelude.{IsSomeAnd, slice_get, slice_set, if◌then◌else◌}
use Rattle.std.specs.Option.{option_and_then}
use Rattle.cwr_fields.specs.declared.cell_types.CellFault.{CellFault}
use Rattle.cwr_fields.specs.declared.cell_types.CellType.{CellType}
use Rattle.cwr_fields.specs.Format.Bytes.{filled}
use Rattle.cwr_fields.specs.Format.Cells.{Allows, HasFault}
use Rattle.cwr_fields.specs.declared.kinds.Kind.{Kind}
use Rattle.cwr_lines.specs.declared.drafts.SetFault.{SetFault}
use Rattle.cwr_lines.specs.declared.drafts.SetFault.TheVariants.{NoSuchField, Derived, TooWide, Cell}
use Rattle.cwr_lines.specs.declared.drafts.DraftFault.{DraftFault}
use Rattle.cwr_fields.specs.Format.Layouts.{FieldLayout, layout, field_at, field_with_start}
use Rattle.cwr_lines.specs.Format.Records.{RecordValue}

-- field j of a kind, from 1, where the kind has it and it isn't derived
abbrev pub carried_at : Kind → ℕ → Option FieldLayout
carried_at kind j = option_and_then (λ f. if f.derived then None else Some f) (field_at kind j)

-- field j of a kind with the place where it starts, where the kind has it and it isn't derived
abbrev pub carried_with_start : Kind → ℕ → Option (ℕ × FieldLayout)
carried_with_start kind j = option_and_then (λ p. if p.1.derived then None else Some p) (field_with_start kind j)

-- how many carried fields stand before field j: the place of its cell among the carried cells
abbrev pub carried_before : Kind → ℕ → ℕ
carried_before kind j = length (filter (λ f. not f.derived) (take (j - 1) (layout kind)))

-- the record's cell of field j; a derived field has none, and no field has none
abbrev pub record_cell : RecordValue → ℕ → Option (List ℕ)
record_cell r j = option_and_then (λ _. slice_get r.cells (carried_before r.kind j)) (carried_at r.kind j)

-- the record has a cell of field j, of that width and one of that type
abbrev pub HasCellOf : RecordValue → ℕ → CellType → ℕ → Type 0
HasCellOf r j ty width = IsSomeAnd (record_cell r j) (λ cell. (length cell ≡ width) × Allows ty cell)

-- the record with that text as its cell of field j
abbrev pub set_cell : ℕ → List ℕ → RecordValue → RecordValue
set_cell j text r = record { kind = r.kind; cells = slice_set r.cells (carried_before r.kind j) text }

-- the record with the text as its cell of field j shows that there, and all other cells as before
pub record ShowsSet (r : RecordValue) (j : ℕ) (text : List ℕ) : Type 0 where
  pub there : record_cell (set_cell j text r) j ≡ Some text
  pub others : (i : ℕ) → i ≢ j → record_cell (set_cell j text r) i ≡ record_cell r i

-- new is old with the text, filled up with spaces, as its cell of field j, and that is one of the field
abbrev pub Sets : ℕ → List ℕ → RecordValue → RecordValue → Type 0
Sets j text old new =
    IsSomeAnd (carried_at old.kind j)
    (λ f. (length text ≤ f.width) × Allows f.ty (filled f.width text) × (new ≡ set_cell j (filled f.width text) old))

-- why the text isn't set as a cell of field j: the first of these that holds
abbrev pub IsSetFault : Kind → ℕ → List ℕ → SetFault → Type 0
IsSetFault this_kind j text NoSuchField = field_at this_kind j ≡ None
IsSetFault this_kind j text Derived = IsSomeAnd (field_at this_kind j) (λ f. IsTrue f.derived)
IsSetFault this_kind j text TooWide = IsSomeAnd (carried_at this_kind j) (λ f. f.width < length text)
IsSetFault this_kind j text (Cell fault) =
    IsSomeAnd (carried_at this_kind j) (λ f. (length text ≤ f.width) × HasFault f.ty (filled f.width text) fault)

-- the record's cell of field j, where it has one, is one of the field's type
abbrev pub FitsAt : RecordValue → ℕ → Type 0
FitsAt r j = IfSome (carried_at r.kind j) (λ f. IfSome (record_cell r j) (Allows f.ty))

-- the record's cell of field j has the fault
abbrev pub HasCellFault : RecordValue → ℕ → CellFault → Type 0
HasCellFault r j fault = IsSomeAnd (carried_at r.kind j) (λ f. IsSomeAnd (record_cell r j) (λ cell. HasFault f.ty cell fault))

-- the first of the record's cells that isn't one of its field's type, and its fault
pub record IsFirstUnfit (r : RecordValue) (d : DraftFault) : Type 0 where
  pub before : (i : ℕ) → i < d.field → FitsAt r i
  pub here : HasCellFault r d.field d.fault
