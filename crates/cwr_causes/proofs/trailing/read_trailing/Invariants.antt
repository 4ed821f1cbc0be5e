use Rattle.std.proofs.Common.{◌≡◌}
use Rattle.cwr_causes.specs.Steps.Trailing.{HasTaken}
use Rattle.cwr_causes.proofs.trailing.read_trailing.Given as goal

abbrev pub invariant-loop-pieces : goal.invariant-loop-pieces
invariant-loop-pieces g l =
    HasTaken (g.R.Source.remaining l.fn.reader) (g.R.Source.remaining l.reader) l._pieces l.found
    × (g.R.Source.failures l.reader ≡ g.R.Source.failures l.fn.reader)
