use Rattle.cwr_advise.specs.Format.AdviceTexts.{cell_line}
use Rattle.cwr_advise.proofs.advice_texts.cell_line.Goals as goal

pub returns : goal.returns
unfolding cell_line
returns g c = c.cell_note.ensures
