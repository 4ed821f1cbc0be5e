-- The fault of a cell of a line that was cut.
use Rattle.std.specs.Prelude.{◌≡◌, ℕ, List, Option, Some, None}
use Rattle.cwr_fields.specs.declared.cell_types.CellType.{CellType}
use Rattle.cwr_fields.specs.declared.cell_types.CellFault.{CellFault}
use Rattle.cwr_fields.specs.Format.Cells.{Allows, HasFault}
use Rattle.cwr_fields.specs.declared.kinds.Kind.{Kind}
use Rattle.cwr_fields.specs.Format.Layouts.{FieldLayout, field_at}
use Rattle.cwr_lines.specs.Steps.Held.{HeldLine, held_cell, held_kind}

-- the fault of a cell of the type; none where the cell is one of it
abbrev pub IsFaultOf : CellType → List ℕ → Option CellFault → Type 0
IsFaultOf ty cell None = Allows ty cell
IsFaultOf ty cell (Some fault) = HasFault ty cell fault

-- that of cell j of the line, where its kind has such a field
abbrev pub IsFaultAt : HeldLine → ℕ → Option CellFault → Type 0
IsFaultAt h j found =
    (kind : Kind) (f : FieldLayout) (cell : List ℕ) → held_kind h ≡ Some kind → field_at kind j ≡ Some f
    → held_cell h j ≡ Some cell → IsFaultOf f.ty cell found
