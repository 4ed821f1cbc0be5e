use Rattle.std.proofs.Common.{◌≡◌, length}
use Rattle.cwr_select.specs.Format.Criteria.{significant}
use Rattle.cwr_select.proofs.parties.significant.Given as goal

abbrev pub invariant-loop-rest : goal.invariant-loop-rest
invariant-loop-rest l = significant l.rest ≡ significant l.digits

abbrev pub decreases-loop-rest : goal.decreases-loop-rest
decreases-loop-rest l = length l.rest
