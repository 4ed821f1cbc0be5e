use Rattle.std.proofs.Common.{◌≡◌, length}
use Rattle.cwr_decode.specs.Steps.PiecesLeft.{text_left}
use Rattle.cwr_decode.proofs.piecewise.Pieces.skip.Given as goal

abbrev pub invariant-loop-first : goal.invariant-loop-first
invariant-loop-first l = text_left l.self ≡ text_left l.initial.self

abbrev pub decreases-loop-first : goal.decreases-loop-first
decreases-loop-first l = length l.self.pieces.now
