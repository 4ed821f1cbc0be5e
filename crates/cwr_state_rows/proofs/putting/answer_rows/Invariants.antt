use Rattle.std.proofs.Common.{◌≤◌, ◌-◌, Some, length, take}
use Rattle.cwr_devices.specs.Steps.Pens.{Adds}
use Rattle.cwr_state_rows.specs.Steps.HeldRows.{kept_text, numbered, shared_by}
use Rattle.cwr_state_rows.proofs.putting.answer_rows.Given as goal

abbrev pub invariant-loop-answer : goal.invariant-loop-answer
invariant-loop-answer g l = record {
  within : l.i ≤ length l.answers;
  adds : Adds g.W.Target.contents g.W.Target.failures
      (numbered (λ n kept. kept_text (shared_by l.front) l.files (Some kept)) 0 (take l.i l.answers)) l.initial.pen l.pen;
}

abbrev pub decreases-loop-answer : goal.decreases-loop-answer
decreases-loop-answer g l = length l.answers - l.i
