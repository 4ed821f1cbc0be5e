use Rattle.cwr_lint.proofs.lemmas.OneCellRefused.{one_cell_refused}
use Rattle.cwr_lint.proofs.laws.one_cell_is_refused.Goals as goal

pub returns : goal.returns
returns c = one_cell_refused
