-- What is left of a text in pieces.
use Rattle.std.specs.Prelude.{ℕ, List, ◌++◌}
use Rattle.cwr_decode.specs.declared.piecewise.Pieces.{Pieces}
use Rattle.cwr_decode.specs.Format.Headline.{text_in}

-- the rest of the piece at hand, and the pieces after it
abbrev pub text_left : Pieces → List ℕ
text_left p = p.left.now ++ text_in p.pieces.now
