use Rattle.std.proofs.Common.{◌≡◌}
use Rattle.cwr_causes.specs.Steps.Walks.{HasWalked}
use Rattle.cwr_causes.proofs.ahead.look_ahead.Given as goal

abbrev pub invariant-loop-pieces : goal.invariant-loop-pieces
invariant-loop-pieces g l =
    HasWalked l.fn.sequence l.fn.number (g.R.Source.remaining l.fn.reader) (g.R.Source.remaining l.reader) l._pieces l.walk
    × (g.R.Source.failures l.reader ≡ g.R.Source.failures l.fn.reader)
