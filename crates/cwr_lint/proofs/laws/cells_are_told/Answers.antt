use Rattle.cwr_lint.proofs.lemmas.CellsTold.{cells_are_told}
use Rattle.cwr_lint.proofs.laws.cells_are_told.Goals as goal

pub returns : goal.returns
returns c = cells_are_told
