use Rattle.std.proofs.Common.{◌≡◌, length}
use Rattle.cwr_advice.specs.Format.Shifts.{has_gap}
use Rattle.cwr_advice.proofs.shifts.has_gap.Given as goal

abbrev pub invariant-loop-byte : goal.invariant-loop-byte
invariant-loop-byte l = has_gap l.rest ≡ has_gap l.fn.cell

abbrev pub decreases-loop-byte : goal.decreases-loop-byte
decreases-loop-byte l = length l.rest
