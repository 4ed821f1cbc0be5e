use Rattle.std.proofs.Common.{◌≡◌}
use Rattle.std.specs.Prelude.{None}
use Rattle.cwr_causes.specs.Format.Shifts.{first_sign}
use Rattle.cwr_causes.proofs.shifts.field_with_sign.Given as goal

abbrev pub invariant-loop-before : goal.invariant-loop-before
invariant-loop-before l = first_sign l.kind l.bytes l.before ≡ None
