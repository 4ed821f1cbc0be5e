use Rattle.cwr_judge.proofs.lemmas.EachEnd.{each_end}
use Rattle.cwr_decode.proofs.laws.each_text_has_an_end.Goals as goal

pub returns : goal.returns
returns c = each_end
