use Rattle.std.proofs.Common.{◌≡◌, ◌≤◌, ◌-◌, length, take}
use Rattle.std.specs.List.{list_any}
use Rattle.cwr_delivery.specs.Format.Acknowledgements.{is_message_of}
use Rattle.cwr_delivery.proofs.acknowledgements.has_level.Given as goal

abbrev pub invariant-loop-shown : goal.invariant-loop-shown
invariant-loop-shown l = record {
  within : l.i ≤ length l.transaction;
  value : l.found ≡ list_any (is_message_of l.level) (take l.i l.transaction);
}

abbrev pub decreases-loop-shown : goal.decreases-loop-shown
decreases-loop-shown l = length l.transaction - l.i
