use Rattle.cwr_terminal.proofs.lemmas.Fitting.{broken_to_fit}
use Rattle.cwr_terminal.proofs.laws.lines_fit_the_width.Goals as goal

pub returns : goal.returns
returns c = broken_to_fit
