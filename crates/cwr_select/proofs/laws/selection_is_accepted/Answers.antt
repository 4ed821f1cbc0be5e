use Rattle.cwr_select.proofs.lemmas.SelectionLaws.{selection_accepted}
use Rattle.cwr_select.proofs.laws.selection_is_accepted.Goals as goal

pub returns : goal.returns
returns c = selection_accepted
