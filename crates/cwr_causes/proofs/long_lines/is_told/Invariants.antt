use Rattle.std.proofs.Common.{◌≡◌}
use Rattle.cwr_causes.specs.Format.LongLines.{told_in}
use Rattle.cwr_causes.proofs.long_lines.is_told.Given as goal

abbrev pub invariant-loop-before : goal.invariant-loop-before
invariant-loop-before l = l.told ≡ told_in l.kind l.text l.start l.before
