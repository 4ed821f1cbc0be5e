use Rattle.cwr_advise.proofs.kept_works.AdvisedSumsKeeper.add.Goals as goal

pub returns : goal.returns
returns g c = λ records h yes. (c.add.ensures records h.0 c.if-not-add.false, c.add-2.ensures records h.1 yes)
