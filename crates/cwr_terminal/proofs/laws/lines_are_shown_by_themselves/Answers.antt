use Rattle.cwr_terminal.proofs.lemmas.ByLines.{shown_by_lines}
use Rattle.cwr_terminal.proofs.laws.lines_are_shown_by_themselves.Goals as goal

pub returns : goal.returns
returns c = shown_by_lines
