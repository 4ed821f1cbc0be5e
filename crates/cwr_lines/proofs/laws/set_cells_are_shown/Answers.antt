use Rattle.cwr_lines.proofs.lemmas.CellLaws.{shows_set}
use Rattle.cwr_lines.proofs.laws.set_cells_are_shown.Goals as goal

pub returns : goal.returns
returns c = shows_set
