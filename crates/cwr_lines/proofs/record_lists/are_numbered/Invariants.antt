use Rattle.std.proofs.Common.{length, ◌-◌, ◌≤◌, take}
use Rattle.cwr_lines.specs.Steps.KeptLines.{AreNumbered}
use Rattle.cwr_lines.proofs.record_lists.are_numbered.Given as goal

abbrev pub invariant-loop-i : goal.invariant-loop-i
invariant-loop-i l = record {
  within : l.i ≤ length l.starts;
  numbered : AreNumbered l.transaction 0 l.text (take l.i l.starts);
}

abbrev pub decreases-loop-i : goal.decreases-loop-i
decreases-loop-i l = length l.starts - l.i
