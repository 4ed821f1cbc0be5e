use Rattle.std.proofs.Common.{◌≡◌, ◌≤◌, ◌-◌, length, map, take}
use Rattle.cwr_summary.specs.Format.Summaries.{finding_part}
use Rattle.cwr_summary.specs.Steps.Counted.{counted}
use Rattle.cwr_summary.proofs.summaries.Summary.add_findings.Given as goal

abbrev pub invariant-loop-finding : goal.invariant-loop-finding
invariant-loop-finding l = record {
  within : l.i ≤ length l.found;
  counted : l.self.numbers ≡ counted l.fn.self.numbers (map finding_part (take l.i l.found));
}

abbrev pub decreases-loop-finding : goal.decreases-loop-finding
decreases-loop-finding l = length l.found - l.i
