use Rattle.cwr_advice.proofs.lemmas.CleanWorks.{answer_more, work_more}
use Rattle.cwr_advice.proofs.kept.AdviceSums.add.Goals as goal

pub returns-then-self : goal.returns-then-self
returns-then-self c = λ rs h yes. answer_more c.args.self.now rs c.args.shown.now c.if-self.true h

pub returns : goal.returns
returns c =
    λ rs h yes. work_more c.args.self.now c.add_to_work.new.self rs c.args.shown.now c.if-self.false c.add_to_work.ensures.same h
    (λ kept. c.add_to_work.ensures.kept rs kept yes)
