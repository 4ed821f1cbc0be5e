use Rattle.cwr_advise.proofs.lemmas.AdviceCounted.{counts-more, summed, told-by}
use Rattle.cwr_advise.proofs.laws.counts_stand_for_advice.Goals as goal

pub returns-clause-told : goal.returns-clause-told
returns-clause-told c = told-by

pub returns-clause-counted : goal.returns-clause-counted
returns-clause-counted c = counts-more

pub returns-clause-summed : goal.returns-clause-summed
returns-clause-summed c = summed
