use Rattle.std.proofs.Common.{ℕ, ◌<◌, ◌≤◌, length}
use Rattle.cwr_fields.specs.Format.Layouts.{layout}
use Rattle.cwr_lines.proofs.lemmas.BlankFields.{IsBlankAt}
use Rattle.cwr_lines.proofs.records.RecordRef.filled_fields.Given as goal

abbrev pub invariant-loop-filled : goal.invariant-loop-filled
invariant-loop-filled l =
    (l.filled ≤ length (layout l.fn.self.kind)) × ((j : ℕ) → l.filled < j → IsBlankAt l.fn.self j)

abbrev pub decreases-loop-filled : goal.decreases-loop-filled
decreases-loop-filled l = l.filled
