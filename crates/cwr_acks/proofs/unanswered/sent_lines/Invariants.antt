use Rattle.std.proofs.Common.{ℕ, take}
use Rattle.std.specs.Prelude.{slice_get}
use Rattle.std.specs.List.{enumerate_from, flat_map}
use Rattle.cwr_devices.specs.Steps.Pens.{Adds}
use Rattle.cwr_sent.specs.Format.GroupRows.{GroupRows}
use Rattle.cwr_sent.specs.Format.SentRows.{shown_in}
use Rattle.cwr_acks.specs.Format.AckLines.{telling_of}
use Rattle.cwr_acks.specs.Steps.AckSteps.{group_lines}
use Rattle.cwr_acks.proofs.unanswered.sent_lines.Given as goal

abbrev pub invariant-loop-g : goal.invariant-loop-g
invariant-loop-g g l = Adds g.W.Target.contents g.W.Target.failures
    (flat_map (λ (p : ℕ × GroupRows). group_lines (telling_of l.manner) (slice_get (telling_of l.manner).names l.i) p.0 p.1)
    (take l.g (enumerate_from 1 (shown_in l.sent).groups))) l.initial.pen l.pen
