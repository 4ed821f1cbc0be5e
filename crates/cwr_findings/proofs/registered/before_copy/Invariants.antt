use Rattle.std.proofs.Common.{◌≤◌}
use Rattle.cwr_findings.specs.Format.Findings.{before_copy}
use Rattle.cwr_findings.proofs.registered.before_copy.Given as goal

abbrev pub invariant-loop-at : goal.invariant-loop-at
invariant-loop-at l = l.at ≤ before_copy l.transaction
