use Rattle.cwr_select.proofs.lemmas.SelectionLaws.{all_selected, twice_once}
use Rattle.cwr_select.proofs.laws.all_is_selected.Goals as goal

pub returns-clause-all : goal.returns-clause-all
returns-clause-all c = all_selected

pub returns-clause-twice : goal.returns-clause-twice
returns-clause-twice c = twice_once
