use Rattle.cwr_summary.proofs.lemmas.Wholes.{joins_add}
use Rattle.cwr_summary.proofs.laws.joins_add_up.Goals as goal

pub returns : goal.returns
returns c = joins_add
