use Rattle.cwr_write.proofs.lemmas.OwnLines.{own_lines}
use Rattle.cwr_write.proofs.laws.own_lines_are_data.Goals as goal

pub returns : goal.returns
returns c = own_lines
