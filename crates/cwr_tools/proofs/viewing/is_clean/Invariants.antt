use Rattle.std.proofs.Common.{◌≤◌, ◌-◌, length, take}
use Rattle.cwr_findings.specs.Steps.Sums.{StandFor}
use Rattle.cwr_tools.proofs.viewing.is_clean.Given as goal

abbrev pub invariant-records : goal.invariant-records
invariant-records l = record {
  within : l.i ≤ length l.transaction;
  stand : StandFor l.sums (take l.i l.transaction);
}

abbrev pub decreases-records : goal.decreases-records
decreases-records l = length l.transaction - l.i
