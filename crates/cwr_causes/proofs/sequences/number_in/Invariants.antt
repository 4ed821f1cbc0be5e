use Rattle.std.proofs.Common.{◌≡◌, take}
use Rattle.cwr_causes.specs.Format.Sequences.{capped_number}
use Rattle.cwr_causes.proofs.sequences.number_in.Given as goal

abbrev pub invariant-loop-digit : goal.invariant-loop-digit
invariant-loop-digit l = l.number ≡ capped_number (take l.digit-index l.digits)
