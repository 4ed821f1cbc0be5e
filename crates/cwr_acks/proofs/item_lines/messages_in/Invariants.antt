use Rattle.std.proofs.Common.{◌≡◌, ℕ, ◌≤◌, ◌-◌, length, take}
use Rattle.std.specs.List.{enumerate_from, flat_map, list_any}
use Rattle.cwr_lines.specs.Format.Records.{RecordValue}
use Rattle.cwr_devices.specs.Steps.Pens.{Adds}
use Rattle.cwr_delivery.specs.Format.Acknowledgements.{is_message}
use Rattle.cwr_acks.specs.Steps.AckSteps.{message_in}
use Rattle.cwr_acks.proofs.item_lines.messages_in.Given as goal

abbrev pub invariant-loop-shown : goal.invariant-loop-shown
invariant-loop-shown g l = record {
  within : l.i ≤ length l.transaction;
  later : l.later ≡ list_any is_message (take l.i l.transaction);
  adds : Adds g.W.Target.contents g.W.Target.failures
      (flat_map (λ (p : ℕ × RecordValue). message_in l.form (list_any is_message (take p.0 l.transaction)) p.1)
      (take l.i (enumerate_from 0 l.transaction))) l.initial.pen l.pen;
}

abbrev pub decreases-loop-shown : goal.decreases-loop-shown
decreases-loop-shown g l = length l.transaction - l.i
