use Rattle.cwr_words.proofs.words.join_in.Goals as goal

pub returns-in_default : goal.returns-in_default
returns-in_default c = λ words h. c.in_default.ensures words.repeated h.4

pub returns-in_default-2 : goal.returns-in_default-2
returns-in_default-2 c = λ words h. let none = rw c.in_default-2.is at c.in_ok-out.ensures in none (words.out, words.files) h.0
