use Rattle.std.proofs.Common.{◌≡◌, length}
use Rattle.cwr_causes.specs.Format.Handling.{has_html}
use Rattle.cwr_causes.proofs.handling.has_html.Given as goal

abbrev pub invariant-loop-rest : goal.invariant-loop-rest
invariant-loop-rest l = has_html l.rest ≡ has_html l.fn.line

abbrev pub decreases-loop-rest : goal.decreases-loop-rest
decreases-loop-rest l = length l.rest
