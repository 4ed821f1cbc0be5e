use Rattle.cwr_summary.proofs.lemmas.Runs.{splits_add}
use Rattle.cwr_summary.proofs.laws.splits_add_up.Goals as goal

pub returns : goal.returns
returns c = splits_add
