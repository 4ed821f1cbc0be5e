use Rattle.cwr_advice.proofs.lemmas.CleanWorks.{none_on_answer, none_on_work}
use Rattle.cwr_advice.proofs.kept.AdviceSums.is_clean.Goals as goal

pub returns-then-self : goal.returns-then-self
returns-then-self c = λ rs h yes said. none_on_answer said c.args.self.now rs c.if-self.true h

pub returns : goal.returns
returns c =
    λ rs h yes said. none_on_work said c.args.self.now rs c.if-self.false h (λ kept. c.is_work_clean.ensures rs kept yes said)
