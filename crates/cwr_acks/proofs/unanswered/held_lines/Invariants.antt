use Rattle.std.proofs.Common.{ℕ, take}
use Rattle.std.specs.List.{enumerate_from, flat_map}
use Rattle.cwr_devices.specs.Steps.Pens.{Adds}
use Rattle.cwr_sent.specs.Format.SentRows.{SentShown}
use Rattle.cwr_delivery.specs.Steps.Deliveries.{held_in}
use Rattle.cwr_acks.specs.Format.AckLines.{telling_of}
use Rattle.cwr_acks.specs.Steps.AckSteps.{sent_lines}
use Rattle.cwr_acks.proofs.unanswered.held_lines.Given as goal

abbrev pub invariant-loop-i : goal.invariant-loop-i
invariant-loop-i g l = Adds g.W.Target.contents g.W.Target.failures
    (flat_map (λ (p : ℕ × SentShown). sent_lines (telling_of l.manner) p.0 p.1) (take l.i (enumerate_from 0 (held_in l.delivery).sent)))
    l.initial.pen l.pen
