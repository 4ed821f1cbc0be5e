-- Whose the transaction is that a lint is in.
use Rattle.std.specs.Prelude.{ℕ, ◌==◌, Bool, true, false, nat_lt, List, [], Option, None, Some, if◌then◌else◌}
use Rattle.cwr_lines.specs.Steps.Held.{HeldLine}
use Rattle.cwr_causes.specs.Steps.Works.{own_work}
use Rattle.cwr_lint_lines.specs.declared.judged_lines.Judged.{Judged}
use Rattle.cwr_lint_lines.specs.declared.judged_lines.Judged.TheVariants.{Unknown, Known as Of}
use Rattle.cwr_lint_lines.specs.declared.states.LintState.{LintState}
use Rattle.cwr_lint_lines.specs.declared.states.OpenGroup.{OpenGroup}
use Rattle.cwr_lint_lines.specs.declared.takings.Taking.{Taking}
use Rattle.cwr_lint_lines.specs.declared.takings.Taking.TheVariants as takings
use Rattle.cwr_lint_lines.specs.Steps.Cells.{held_cut}
use Rattle.cwr_lint_lines.specs.Steps.States.{open_transaction}
use Rattle.cwr_lint.specs.Steps.Walks.{state_by}

-- the number of the open transaction, as it is known
abbrev pub open_number : Option OpenGroup → Option ℕ
open_number None = None
open_number (Some g) = Some (open_transaction g).number

abbrev pub is_same_number : Option ℕ → Option ℕ → Bool
is_same_number None None = true
is_same_number (Some a) (Some b) = a == b
is_same_number a b = false

abbrev pub work_if : Bool → List ℕ → List ℕ
work_if is_open work = if is_open then work else []

-- the line on the work after a line that was taken so: a header's is its own, and a further line's the one before, where it stays in the same
-- transaction
abbrev pub work_by_taking : Taking → HeldLine → Bool → List ℕ → List ℕ
work_by_taking (takings.Header ty) h is_same before = own_work h
work_by_taking takings.Further h is_same before = work_if is_same before
work_by_taking takings.Other h is_same before = work_if is_same before
work_by_taking taken h is_same before = []

abbrev pub work_after : Judged → HeldLine → Bool → List ℕ → List ℕ
work_after Unknown h is_same before = work_if is_same before
work_after (Of known) h is_same before = work_by_taking known.taken h is_same before

-- that of a fault at a field of the line: at the first field of the transaction that was open before it, and at any other of the one that is
-- open with it
abbrev pub work_at : List ℕ → LintState → ℕ → Judged → HeldLine → List ℕ
work_at before st field Unknown h = before
work_at before st field (Of known) h = if nat_lt 1 field
    then work_by_taking known.taken h
    (is_same_number (open_number (state_by (Of known) st (held_cut h)).group) (open_number st.group)) before else before
