use Rattle.cwr_advise.proofs.lemmas.FirstTold.{all_told, first_told}
use Rattle.cwr_advise.proofs.laws.first_three_are_told.Goals as goal

pub returns-clause-first : goal.returns-clause-first
returns-clause-first c = first_told

pub returns-clause-all : goal.returns-clause-all
returns-clause-all c = all_told
