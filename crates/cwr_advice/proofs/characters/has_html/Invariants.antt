use Rattle.std.proofs.Common.{◌≡◌, length}
use Rattle.cwr_advice.specs.Format.Characters.{has_html}
use Rattle.cwr_advice.proofs.characters.has_html.Given as goal

abbrev pub invariant-loop-byte : goal.invariant-loop-byte
invariant-loop-byte l = has_html l.rest ≡ has_html l.fn.cell

abbrev pub decreases-loop-byte : goal.decreases-loop-byte
decreases-loop-byte l = length l.rest
