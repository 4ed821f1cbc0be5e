use Rattle.std.proofs.Common.{◌≡◌, ◌-◌, ◌≤◌, ◌||◌, length, drop, Option}
use Rattle.cwr_shape.specs.declared.reasons.Level.{Level}
use Rattle.cwr_tools.specs.Format.Watching.{has_from, is_reached}
use Rattle.cwr_advise.proofs.worst.Worst.see_findings.Given as goal

abbrev pub invariant-loop-finding : goal.invariant-loop-finding
invariant-loop-finding l = record {
  within : l.i ≤ length l.found;
  worst : (asked : Option Level) → (is_reached asked l.self.level || has_from asked (drop l.i l.found))
      ≡ (is_reached asked l.fn.self.level || has_from asked l.found);
}

abbrev pub decreases-loop-finding : goal.decreases-loop-finding
decreases-loop-finding l = length l.found - l.i
