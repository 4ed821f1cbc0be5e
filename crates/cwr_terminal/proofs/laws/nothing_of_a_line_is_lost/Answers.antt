use Rattle.cwr_terminal.proofs.lemmas.Kept.{nothing_is_lost}
use Rattle.cwr_terminal.proofs.laws.nothing_of_a_line_is_lost.Goals as goal

pub returns : goal.returns
returns c = nothing_is_lost
