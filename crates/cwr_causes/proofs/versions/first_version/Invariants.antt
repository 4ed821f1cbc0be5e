use Rattle.std.proofs.Common.{◌≡◌, length}
use Rattle.cwr_causes.specs.Format.Openings.{first_version}
use Rattle.cwr_causes.proofs.versions.first_version.Given as goal

abbrev pub invariant-loop-rest : goal.invariant-loop-rest
invariant-loop-rest l = first_version l.rest ≡ first_version l.fn.text

abbrev pub decreases-loop-rest : goal.decreases-loop-rest
decreases-loop-rest l = length l.rest
