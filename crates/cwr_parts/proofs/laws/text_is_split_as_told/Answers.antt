use Rattle.cwr_parts.proofs.lemmas.ToldRuns.{told_accepted, told_judged}
use Rattle.cwr_parts.proofs.laws.text_is_split_as_told.Goals as goal

pub returns-clause-judged : goal.returns-clause-judged
returns-clause-judged c = told_judged

pub returns-clause-accepted : goal.returns-clause-accepted
returns-clause-accepted c = told_accepted
