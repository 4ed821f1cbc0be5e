use Rattle.std.proofs.Common.{◌≡◌, ◌+◌, ◌-◌, length}
use Rattle.cwr_lines.proofs.lemmas.CopiedFronts.{IsFurther}
use Rattle.cwr_lines.proofs.lines.pads.copy_front.Given as goal

abbrev pub invariant-loop-at : goal.invariant-loop-at
invariant-loop-at l = record { len : length l.text ≡ length l.fn.text; copied : IsFurther l.text l.piece l.at }

abbrev pub decreases-loop-at : goal.decreases-loop-at
decreases-loop-at l = l.most + 1 - l.at
