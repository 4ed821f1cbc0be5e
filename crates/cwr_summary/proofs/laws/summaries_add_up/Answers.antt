use Rattle.cwr_summary.proofs.lemmas.Summed.{add_up}
use Rattle.cwr_summary.proofs.laws.summaries_add_up.Goals as goal

pub returns : goal.returns
returns c = add_up
