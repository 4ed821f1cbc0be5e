use Rattle.std.proofs.Common.{◌≡◌, length}
use Rattle.cwr_causes.specs.Format.Openings.{version_text}
use Rattle.cwr_causes.proofs.versions.version_text.Given as goal

abbrev pub invariant-loop-rest : goal.invariant-loop-rest
invariant-loop-rest l = version_text l.rest ≡ version_text l.fn.line

abbrev pub decreases-loop-rest : goal.decreases-loop-rest
decreases-loop-rest l = length l.rest
