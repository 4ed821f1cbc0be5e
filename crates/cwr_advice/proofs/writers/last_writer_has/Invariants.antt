use Rattle.std.proofs.Common.{◌≡◌, ◌≤◌, take}
use Rattle.cwr_advice.specs.Format.Rules.{last_writer}
use Rattle.cwr_advice.proofs.writers.last_writer_has.Given as goal

abbrev pub invariant-loop-left : goal.invariant-loop-left
invariant-loop-left l = record {
  within : l.left ≤ l.end;
  same : last_writer (take l.end l.transaction) ≡ last_writer (take l.left l.transaction);
}

abbrev pub decreases-loop-left : goal.decreases-loop-left
decreases-loop-left l = l.left
