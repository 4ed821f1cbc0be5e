use Rattle.cwr_select.proofs.lemmas.SelectionLaws.{chosen_selected, others_rest}
use Rattle.cwr_select.proofs.laws.chosen_are_selected.Goals as goal

pub returns-clause-chosen : goal.returns-clause-chosen
returns-clause-chosen c = chosen_selected

pub returns-clause-others : goal.returns-clause-others
returns-clause-others c = others_rest
