use Rattle.std.proofs.Common.{◌≡◌, length}
use Rattle.cwr_advice.specs.Format.Characters.{has_lost_letter}
use Rattle.cwr_advice.proofs.characters.has_lost_letter.Given as goal

abbrev pub invariant-loop-byte : goal.invariant-loop-byte
invariant-loop-byte l = has_lost_letter l.rest ≡ has_lost_letter l.fn.cell

abbrev pub decreases-loop-byte : goal.decreases-loop-byte
decreases-loop-byte l = length l.rest
