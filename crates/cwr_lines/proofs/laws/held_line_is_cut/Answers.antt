use Rattle.cwr_lines.proofs.lemmas.HeldLaws.{held_line_is_cut}
use Rattle.cwr_lines.proofs.laws.held_line_is_cut.Goals as goal

pub returns : goal.returns
returns c = held_line_is_cut
