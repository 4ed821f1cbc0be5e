use Rattle.std.proofs.Common.{◌≡◌, ◌≤◌, ◌-◌, length, take}
use Rattle.std.specs.Prelude.{flat_map}
use Rattle.cwr_summary.specs.Format.Summaries.{share_parts}
use Rattle.cwr_summary.specs.Steps.Counted.{counted}
use Rattle.cwr_summary.specs.Steps.Shares.{owned_in}
use Rattle.cwr_summary.proofs.summaries.Summary.add_right.Given as goal

abbrev pub invariant-loop-shown : goal.invariant-loop-shown
invariant-loop-shown l = record {
  within : l.i ≤ length l.transaction;
  owned : l.owned ≡ owned_in l.right (take l.i l.transaction);
  counted : l.self.numbers ≡ counted l.fn.self.numbers (flat_map (share_parts l.right) (take l.i l.transaction));
}

abbrev pub decreases-loop-shown : goal.decreases-loop-shown
decreases-loop-shown l = length l.transaction - l.i
