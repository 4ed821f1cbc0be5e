use Rattle.std.proofs.Common.{◌≡◌, ◌≤◌, ◌-◌, length, map, take}
use Rattle.cwr_summary.specs.Format.Summaries.{record_part}
use Rattle.cwr_summary.specs.Steps.Counted.{counted}
use Rattle.cwr_summary.proofs.summaries.Summary.add_records.Given as goal

abbrev pub invariant-loop-shown : goal.invariant-loop-shown
invariant-loop-shown l = record {
  within : l.i ≤ length l.transaction;
  counted : l.self.numbers ≡ counted l.fn.self.numbers (map record_part (take l.i l.transaction));
}

abbrev pub decreases-loop-shown : goal.decreases-loop-shown
decreases-loop-shown l = length l.transaction - l.i
