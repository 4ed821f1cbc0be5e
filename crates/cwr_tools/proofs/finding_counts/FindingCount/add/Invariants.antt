use Rattle.std.proofs.Common.{◌≡◌, ◌+◌, ◌-◌, ◌^◌, ◌≤◌, ◌||◌, length, drop, min, Option}
use Rattle.cwr_shape.specs.declared.reasons.Level.{Level}
use Rattle.cwr_tools.specs.Format.Watching.{has_from, is_reached}
use Rattle.cwr_tools.proofs.finding_counts.FindingCount.add.Given as goal

abbrev pub invariant-loop-finding : goal.invariant-loop-finding
invariant-loop-finding l = record {
  within : l.i ≤ length l.found;
  counted : l.self.findings ≡ min (l.fn.self.findings + length l.found) (2 ^ 64 - 1);
  worst : (asked : Option Level) → (is_reached asked l.self.worst || has_from asked (drop l.i l.found))
      ≡ (is_reached asked l.fn.self.worst || has_from asked l.found);
}

abbrev pub decreases-loop-finding : goal.decreases-loop-finding
decreases-loop-finding l = length l.found - l.i
