use Rattle.std.proofs.Common.{◌≡◌, ◌-◌}
use Rattle.std.specs.Prelude.{◌⊎◌}
use Rattle.cwr_decode.specs.Steps.Readings.{FeedsOn}
use Rattle.cwr_decode.specs.Steps.LastReads.{ReadsLast}
use Rattle.cwr_decode.specs.Steps.Represents.{RepresentsSome}
use Rattle.cwr_decode.proofs.readings.read_on.Given as goal

abbrev pub invariant-loop-reported : goal.invariant-loop-reported
invariant-loop-reported g l =
    FeedsOn l.pieces l.initial.decoder (g.R.Source.remaining l.initial.reader) l.decoder (g.R.Source.remaining l.reader)
    × (g.R.Source.failures l.reader ≡ g.R.Source.failures l.initial.reader)
    × ((l.decoder ≡ l.initial.decoder) ⊎ RepresentsSome l.initial.decoder)
    × ReadsLast (g.R.Source.remaining l.initial.reader) (g.R.Source.remaining l.reader) l.initial.last l.last

abbrev pub decreases-loop-reported : goal.decreases-loop-reported
decreases-loop-reported g l = 103000000000 - l.pieces
