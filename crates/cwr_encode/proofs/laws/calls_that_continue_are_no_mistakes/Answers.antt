use Rattle.cwr_encode.proofs.lemmas.NoMistakes.{no_mistake_foot, no_mistake_group, no_mistake_opening, no_mistake_transaction}
use Rattle.cwr_encode.proofs.laws.calls_that_continue_are_no_mistakes.Goals as goal

pub returns-clause-opening : goal.returns-clause-opening
returns-clause-opening c = no_mistake_opening

pub returns-clause-group : goal.returns-clause-group
returns-clause-group c = no_mistake_group

pub returns-clause-transaction : goal.returns-clause-transaction
returns-clause-transaction c = no_mistake_transaction

pub returns-clause-foot : goal.returns-clause-foot
returns-clause-foot c = no_mistake_foot
