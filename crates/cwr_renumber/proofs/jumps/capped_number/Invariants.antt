use Rattle.std.proofs.Common.{◌≡◌, take}
use Rattle.cwr_renumber.specs.Format.Jumps.{capped_number}
use Rattle.cwr_renumber.proofs.jumps.capped_number.Given as goal

abbrev pub invariant-loop-digit : goal.invariant-loop-digit
invariant-loop-digit l = l.number ≡ capped_number (take l.digit-index l.digits)
