-- What is told at each field of a line that was judged.
use Rattle.std.specs.Prelude.{◌≡◌, ◌⊎◌, ℕ, ◌+◌, ◌-◌, ◌^◌, ◌<◌, ◌≤◌, ◌==◌, min, Bool, true, false, not, ◌||◌, List, length, Option}
use Rattle.std.specs.Prelude.{Some, None, slice_get, if◌then◌else◌}
use Rattle.cwr_fields.specs.declared.cell_types.CellType.{CellType}
use Rattle.cwr_fields.specs.Format.Bytes.{is_spaces}
use Rattle.cwr_fields.specs.Format.Cells.{Allows, HasFault}
use Rattle.cwr_fields.specs.declared.kinds.Kind.{Kind}
use Rattle.cwr_fields.specs.Format.Layouts.{FieldLayout, field_at, layout}
use Rattle.cwr_lines.specs.Format.Lines.{line_body, line_kind, line_cells, has_bad_excess}
use Rattle.cwr_shape.specs.declared.reasons.Reason.{Reason}
use Rattle.cwr_shape.specs.declared.reasons.Reason.TheVariants.{UnknownKind, Misplaced, Cell, Number, Excess}
use Rattle.cwr_shape.specs.declared.tallies.Scope.{Scope}
use Rattle.cwr_shape.specs.Format.Levels.{level_of}
use Rattle.cwr_judge.specs.declared.refusals.Refusal.{Refusal}

-- a line as it is cut: its kind, its cells, whether its excess is bad, and whether it is of spaces alone
pub record LineCut : Type 0 where
  pub kind : Option Kind
  pub cells : List (List ℕ)
  pub excess : Bool
  pub blank : Bool

abbrev pub cut_of : List ℕ → LineCut
cut_of line =
    record { kind = line_kind line; cells = line_cells line; excess = has_bad_excess line; blank = is_spaces (line_body line) }

-- The line of that number, as it is judged: what is open before it, whether it is misplaced, and which numbers belong in its fields
-- 2 to 4, where others stand.
pub record JudgedLine : Type 0 where
  pub number : ℕ
  pub scope : Scope
  pub cut : LineCut
  pub misplaced : Bool
  pub second : Option ℕ
  pub third : Option ℕ
  pub fourth : Option ℕ

-- a number as a report has it
abbrev pub report_number : ℕ → ℕ
report_number n = min n (2 ^ 32 - 1)

-- the number that belongs in field j, where that is told; of a misplaced line none is
abbrev pub number_in : JudgedLine → ℕ → Option ℕ
number_in l j =
    if l.misplaced then None else (if j == 2 then l.second else (if j == 3 then l.third else (if j == 4 then l.fourth else None)))

-- its cells are told: a line that is misplaced and has a bad excess was cut by another kind's layout
abbrev pub tells_cells : JudgedLine → Bool
tells_cells l = not l.misplaced || not l.cut.excess

abbrev pub reason_if : Bool → Reason → Option Reason
reason_if true reason = Some reason
reason_if false reason = None

abbrev pub number_reason : Option ℕ → Option Reason
number_reason None = None
number_reason (Some n) = Some (Number n)

-- of a cell its fault is told, if it has one, and else the number that belongs there
abbrev pub IsToldOfCell : CellType → List ℕ → Option ℕ → Option Reason → Type 0
IsToldOfCell ty cell number found =
    (Allows ty cell × (found ≡ number_reason number)) ⊎ ((fault : _) × HasFault ty cell fault × (found ≡ Some (Cell fault)))

-- where cells aren't told, that number alone
abbrev pub IsToldOfField : Bool → CellType → List ℕ → Option ℕ → Option Reason → Type 0
IsToldOfField true ty cell number found = IsToldOfCell ty cell number found
IsToldOfField false ty cell number found = found ≡ number_reason number

-- What is told at field j, from 1: why, if anything. At the first field of a line of known kind that is whether the line is misplaced, and behind the
-- last one whether the excess is bad; at each between them it is what is told of the cell.
pub record IsToldAt (l : JudgedLine) (j : ℕ) (found : Option Reason) : Type 0 where
  pub unknown : l.cut.kind ≡ None → found ≡ Some UnknownKind
  pub order : (kind : Kind) → l.cut.kind ≡ Some kind → j ≡ 1 → found ≡ reason_if l.misplaced Misplaced
  pub excess : (kind : Kind) → l.cut.kind ≡ Some kind → 2 ≤ j → length (layout kind) < j → found ≡ reason_if l.cut.excess Excess
  pub cell : (kind : Kind) (f : FieldLayout) (cell : List ℕ) → l.cut.kind ≡ Some kind → 2 ≤ j → field_at kind j ≡ Some f
      → slice_get l.cut.cells (j - 1) ≡ Some cell → IsToldOfField (tells_cells l) f.ty cell (number_in l j) found

-- the fault with that reason, if there is one
abbrev pub fault_in : JudgedLine → ℕ → Option Reason → Option Refusal
fault_in l j None = None
fault_in l j (Some reason) =
    Some (record { rec = l.number; field = j; level = level_of l.cut.kind j reason l.scope; reason = reason })

-- the number after the last field at which something may be told
abbrev pub fields_end : Option Kind → ℕ
fields_end None = 2
fields_end (Some kind) = length (layout kind) + 2

-- one line more was counted; the count stays at the largest number of 64 bits
abbrev pub one_more_line : ℕ → ℕ
one_more_line n = min (n + 1) (2 ^ 64 - 1)
