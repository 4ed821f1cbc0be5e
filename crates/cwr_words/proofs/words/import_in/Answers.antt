use Rattle.cwr_words.proofs.words.import_in.Goals as goal

pub returns-in_err-number_in : goal.returns-in_err-number_in
returns-in_err-number_in c = rw c.from_residual.ensures (λ words h. c.in_err-number_in.ensures words.line h.2)
