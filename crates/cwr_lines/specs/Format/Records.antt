-- Records as values, and the rows that they are written as.
use Rattle.std.specs.Prelude.{◌≡◌, ℕ, ◌+◌, Bool, true, false, not, List, [], ◌∷◌, length, map, filter, drop, replicate}
use Rattle.std.specs.Prelude.{slice_index, Some, option_map, unwrap_or, find, zip, position, if◌then◌else◌, slice_get}
use Prim.Native.String.{String}
use Rattle.std.specs.Prelude.{codes}
use Rattle.std.specs.List.{AllZip, concat}
use Rattle.std.specs.Str.{bytes_eq}
use Rattle.cwr_fields.specs.declared.cell_types.CellType.{CellType}
use Rattle.cwr_fields.specs.declared.cell_types.CellType.TheVariants.{Constant}
use Rattle.cwr_fields.specs.Format.Bytes.{digits}
use Rattle.cwr_fields.specs.Format.Codes.{word_text}
use Rattle.cwr_fields.specs.Format.Cells.{Allows}
use Rattle.cwr_fields.specs.declared.kinds.Kind.{Kind}
use Rattle.cwr_fields.specs.Format.Kinds.{letters}
use Rattle.cwr_fields.specs.Format.Layouts.{FieldLayout, layout, fields_after_type}

-- a record: its kind and the cells that it carries, in order, each in full width
pub record RecordValue : Type 0 where
  pub kind : Kind
  pub cells : List (List ℕ)

-- the fields whose cells a value carries
abbrev pub carried_fields : Kind → List FieldLayout
carried_fields kind = filter (λ f. not f.derived) (layout kind)

-- the cell has the field's width and is one of its type
abbrev pub IsCellOf : FieldLayout → List ℕ → Type 0
IsCellOf f text = (length text ≡ f.width) × Allows f.ty text

-- a derived cell is the number, written in full width, and any other is one of the field's type
abbrev pub IsGoodCell : Bool → FieldLayout → ℕ → List ℕ → Type 0
IsGoodCell true f n cell = cell ≡ digits f.width n
IsGoodCell false f n cell = Allows f.ty cell

-- each carried cell is one of its field
abbrev pub IsRecord : RecordValue → Type 0
IsRecord r = AllZip IsCellOf (carried_fields r.kind) r.cells

-- a row: a kind, and one text for each of its fields
pub record Row : Type 0 where
  pub kind : Kind
  pub cells : List (List ℕ)

-- a text for each field, each of its field's width, and the first the letters of the kind
pub record IsRow (row : Row) : Type 0 where
  pub widths : AllZip (λ f text. length text ≡ f.width) (layout row.kind) row.cells
  pub begins : slice_get row.cells 0 ≡ Some (letters row.kind)

-- the list without its first element where b holds
abbrev pub rest_if : {X : Type 0} → Bool → List X → List X
rest_if true xs = drop 1 xs
rest_if false xs = xs

-- the cell of a field, from the numbers and the carried cells that are left
abbrev pub cell_from : FieldLayout → List ℕ → List (List ℕ) → List ℕ
cell_from f numbers cells = if f.derived then digits f.width (slice_index numbers 0) else unwrap_or (slice_get cells 0) []

-- the numbers and the carried cells, each in its field
abbrev pub row_cells : List FieldLayout → List ℕ → List (List ℕ) → List (List ℕ)
row_cells [] numbers cells = []
row_cells (f ∷ fields) numbers cells =
    cell_from f numbers cells ∷ row_cells fields (rest_if f.derived numbers) (rest_if (not f.derived) cells)

-- the row of a record with these numbers
abbrev pub row_of : List ℕ → RecordValue → Row
row_of numbers r = record { kind = r.kind; cells = letters r.kind ∷ row_cells (fields_after_type r.kind) numbers r.cells }

-- the row's cells, one after the other
abbrev pub full_line : Row → List ℕ
full_line row = concat row.cells

-- what a row carries, without its derived cells
abbrev pub record_of : Row → RecordValue
record_of row =
    record { kind = row.kind; cells = map (λ p. p.1) (filter (λ p. not p.0.derived) (zip (layout row.kind) row.cells)) }

-- a cell in which nothing was set: the word of a constant, else spaces
abbrev pub blank_cell : CellType → ℕ → List ℕ
blank_cell (Constant word) width = word_text word
blank_cell ty width = replicate width 32

-- a record in which nothing was set
abbrev pub blank_record : Kind → RecordValue
blank_record kind = record { kind = kind; cells = map (λ f. blank_cell f.ty f.width) (carried_fields kind) }

-- the record's cell of that name, and the empty text where its kind carries none of that name
abbrev pub cell_named : String → RecordValue → List ℕ
cell_named name r =
    unwrap_or (option_map (λ p. p.1) (find (λ p. bytes_eq p.0.name (codes name)) (zip (carried_fields r.kind) r.cells))) []

-- the number of the field of that name, and 1 where the kind has none
abbrev pub field_number : String → Kind → ℕ
field_number name kind = 1 + unwrap_or (position (λ f. bytes_eq f.name (codes name)) (layout kind)) 0
