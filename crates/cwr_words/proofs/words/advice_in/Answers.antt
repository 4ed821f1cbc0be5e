use Rattle.cwr_words.proofs.words.advice_in.Goals as goal

pub returns-in_default : goal.returns-in_default
returns-in_default c = λ words h. c.in_default.ensures words.repeated h.2
