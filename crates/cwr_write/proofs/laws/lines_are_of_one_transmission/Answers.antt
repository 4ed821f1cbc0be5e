use Rattle.cwr_write.proofs.lemmas.OwnLines.{one_transmission}
use Rattle.cwr_write.proofs.laws.lines_are_of_one_transmission.Goals as goal

pub returns : goal.returns
returns c = one_transmission
