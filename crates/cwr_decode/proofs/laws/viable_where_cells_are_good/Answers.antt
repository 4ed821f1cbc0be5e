use Rattle.cwr_judge.proofs.lemmas.ViableCells.{viable_continues, continuing_viable}
use Rattle.cwr_decode.proofs.laws.viable_where_cells_are_good.Goals as goal

pub returns : goal.returns
returns c limits before line m = (viable_continues limits before line m, continuing_viable limits before line m)
