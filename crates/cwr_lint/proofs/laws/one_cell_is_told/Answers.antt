use Rattle.cwr_lint.proofs.lemmas.OneCell.{one_cell}
use Rattle.cwr_lint.proofs.laws.one_cell_is_told.Goals as goal

pub returns : goal.returns
returns c = one_cell
