-- The lines that were judged, as the code holds them.
use Rattle.std.specs.Prelude.{◌≡◌, ℕ, ◌+◌, ◌<◌, ◌≤◌, ◌==◌, Bool, true, false, not, ◌||◌, Option, Some, None, if◌then◌else◌}
use Rattle.cwr_fields.specs.declared.cell_types.CellFault.{CellFault}
use Rattle.cwr_fields.specs.declared.kinds.Kind.TheVariants.{Trl}
use Rattle.cwr_fields.specs.declared.kinds.Kind.{Kind}
use Rattle.cwr_lines.specs.Steps.Held.{HeldLine, held_excess, held_kind}
use Rattle.cwr_shape.specs.declared.tallies.Scope.{Scope}
use Rattle.cwr_shape.specs.declared.tallies.Scope.TheVariants as scopes
use Rattle.cwr_shape.specs.declared.reasons.Reason.{Reason}
use Rattle.cwr_shape.specs.declared.reasons.Reason.TheVariants.{Cell}
use Rattle.cwr_judge.specs.declared.refusals.Refusal.{Refusal}
use Rattle.cwr_lint_lines.specs.declared.judged_lines.Known.{Known}
use Rattle.cwr_lint_lines.specs.declared.judged_lines.Judged.{Judged}
use Rattle.cwr_lint_lines.specs.declared.judged_lines.Judged.TheVariants.{Unknown, Known as Of}
use Rattle.cwr_lint_lines.specs.declared.numbers.WrongNumbers.{WrongNumbers}
use Rattle.cwr_lint_lines.specs.declared.states.OpenGroup.{OpenGroup}
use Rattle.cwr_lint_lines.specs.declared.states.LintState.{LintState}
use Rattle.cwr_lint_lines.specs.Format.FaultsAtFields.{JudgedLine, LineCut, IsToldAt, fault_in, fields_end, number_reason}
use Rattle.cwr_lint_lines.specs.Format.FaultsAtFields.{report_number}
use Rattle.cwr_lint_lines.specs.Steps.CellFaults.{IsFaultAt}
use Rattle.cwr_lint_lines.specs.Steps.Cells.{held_cut}
use Rattle.cwr_lint_lines.specs.Steps.NextStates.{is_end}
use Rattle.cwr_lint_lines.specs.Steps.Numbers.{wrong_numbers}
use Rattle.cwr_lint_lines.specs.Steps.Takings.{is_misplaced as is_taken_misplaced, taking}

-- what is open
abbrev pub scope_by : Option OpenGroup → Scope
scope_by None = scopes.File
scope_by (Some group) = if group.has_line then scopes.Transaction else scopes.Group

abbrev pub ends_by : Judged → Bool
ends_by Unknown = false
ends_by (Of known) = is_end known.taken

-- the fault of a cell, and else another reason
abbrev pub reason_or : Option CellFault → Option Reason → Option Reason
reason_or None other = other
reason_or (Some fault) other = Some (Cell fault)

-- the numbers that belong in fields 2 to 4
abbrev pub number_of : WrongNumbers → ℕ → Option ℕ
number_of numbers j =
    if j == 2 then numbers.second else (if j == 3 then numbers.third else (if j == 4 then numbers.fourth else None))

abbrev pub is_misplaced : Judged → Bool
is_misplaced Unknown = false
is_misplaced (Of known) = known.misplaced

abbrev pub second_in : Judged → Option ℕ
second_in Unknown = None
second_in (Of known) = known.numbers.second

abbrev pub third_in : Judged → Option ℕ
third_in Unknown = None
third_in (Of known) = known.numbers.third

abbrev pub fourth_in : Judged → Option ℕ
fourth_in Unknown = None
fourth_in (Of known) = known.numbers.fourth

-- ---- a line, judged at a state

-- one of the kind
abbrev pub known_as : LintState → Kind → LineCut → Known
known_as st kind l = record {
  kind = kind;
  taken = taking st kind l;
  misplaced = is_taken_misplaced (taking st kind l) st kind l;
  numbers = wrong_numbers st (taking st kind l) kind l;
  has_excess = l.excess;
}

abbrev pub judged_by : Option Kind → LintState → LineCut → Judged
judged_by None st l = Unknown
judged_by (Some kind) st l = Of (known_as st kind l)

abbrev pub judged_as : LintState → LineCut → Judged
judged_as st l = judged_by l.kind st l

-- so of a line as it is held
abbrev pub judged_line : LintState → HeldLine → Judged
judged_line st h = judged_as st (held_cut h)

-- the line after so many, at a place, as it was judged
abbrev pub judged_cut : ℕ → Scope → LineCut → Judged → JudgedLine
judged_cut n scope l judged = record {
  number = report_number (n + 1);
  scope = scope;
  cut = l;
  misplaced = is_misplaced judged;
  second = second_in judged;
  third = third_in judged;
  fourth = fourth_in judged;
}

abbrev pub judged_at : ℕ → Scope → HeldLine → Judged → JudgedLine
judged_at n scope h judged = judged_cut n scope (held_cut h) judged

-- what is told of the number in field j
abbrev pub number_reason_in : Known → ℕ → Option Reason
number_reason_in known j = number_reason (if known.misplaced then None else number_of known.numbers j)

-- what is told of the cell in field j, where cells are told, and else of its number
abbrev pub IsReasonIf : Bool → HeldLine → ℕ → Option Reason → Option Reason → Type 0
IsReasonIf true h j number found = (fault : Option CellFault) × IsFaultAt h j fault × (found ≡ reason_or fault number)
IsReasonIf false h j number found = found ≡ number

abbrev pub IsReasonOfCell : Known → HeldLine → ℕ → Option Reason → Type 0
IsReasonOfCell known h j found = IsReasonIf (not known.misplaced || not known.has_excess) h j (number_reason_in known j) found

-- the line was judged as one of its kind; only a TRL ends a transmission
pub record IsKnown (h : HeldLine) (known : Known) : Type 0 where
  pub kind : held_kind h ≡ Some known.kind
  pub excess : known.has_excess ≡ held_excess h
  pub ends : is_end known.taken ≡ true → known.kind ≡ Trl

abbrev pub IsJudged : HeldLine → Judged → Type 0
IsJudged h Unknown = held_kind h ≡ None
IsJudged h (Of known) = IsKnown h known

-- the fault is what is told at the field, where that is no earlier than the first one
pub record IsFaultFrom (l : JudgedLine) (from j : ℕ) (found : Option Refusal) : Type 0 where
  pub reason : Option Reason
  pub told : from ≤ j → IsToldAt l j reason
  pub silent : j < from → reason ≡ None
  pub is : found ≡ fault_in l j reason

-- the number after the last field at which something may be told, of each line that was judged so
abbrev pub IsEndOf : Judged → ℕ → Type 0
IsEndOf judged n = (h : HeldLine) → IsJudged h judged → n ≡ fields_end (held_kind h)
