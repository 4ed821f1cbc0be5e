-- What is so of the faults that are told of a line.
use Rattle.std.specs.Prelude.{◌≡◌, ◌↔◌, ℕ, ◌+◌, ◌-◌, ◌≤◌, true, List, length, Some, slice_get}
use Rattle.std.specs.List.{Contains}
use Rattle.cwr_fields.specs.declared.cell_types.CellFault.{CellFault}
use Rattle.cwr_fields.specs.Format.Cells.{HasFault}
use Rattle.cwr_fields.specs.declared.kinds.Kind.{Kind}
use Rattle.cwr_fields.specs.Format.Layouts.{FieldLayout, field_at, layout}
use Rattle.cwr_shape.specs.declared.reasons.Reason.{Reason}
use Rattle.cwr_shape.specs.declared.reasons.Reason.TheVariants.{Misplaced, Cell, Excess}
use Rattle.cwr_judge.specs.declared.refusals.Refusal.{Refusal}
use Rattle.cwr_lint_lines.specs.Format.FaultsAtFields.{JudgedLine, fields_end, tells_cells}
use Rattle.cwr_lint.specs.Format.FaultsOfLines.{Asking, Tells}

-- a fault with that reason is told at field k
abbrev pub IsToldWith : List Refusal → ℕ → Reason → Type 0
IsToldWith told k reason = (f : Refusal) × Contains told f × (f.field ≡ k) × (f.reason ≡ reason)

-- Of a line of known kind the faults at its cells are just those of the cells that aren't in their types' sets; but a line that is misplaced
-- and has a bad excess was cut by another kind's layout. The excess is told where it is bad, and the order where the line is misplaced.
pub record TellsCells (l : JudgedLine) (kind : Kind) (told : List Refusal) : Type 0 where
  pub cells : (f : FieldLayout) (cell : List ℕ) (k : ℕ) (fault : CellFault) → 2 ≤ k → field_at kind k ≡ Some f
      → slice_get l.cut.cells (k - 1) ≡ Some cell → tells_cells l ≡ true → IsToldWith told k (Cell fault)
      ↔ HasFault f.ty cell fault
  pub excess : IsToldWith told (length (layout kind) + 1) Excess ↔ (l.cut.excess ≡ true)
  pub order : IsToldWith told 1 Misplaced ↔ (l.misplaced ≡ true)

-- so it is of the faults that are told of a whole line
abbrev pub CellsAreTold : Type 0
CellsAreTold =
    (asked : Asking) (l : JudgedLine) (kind : Kind) (told : List Refusal) (text : List ℕ) → l.cut.kind ≡ Some kind
    → Tells asked l 1 (fields_end l.cut.kind) told text → TellsCells l kind told
