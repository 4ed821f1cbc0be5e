use Rattle.cwr_renumber.proofs.lemmas.RowsPutRight.{put_right}
use Rattle.cwr_renumber.proofs.laws.numbers_are_put_right.Goals as goal

pub returns : goal.returns
returns c = put_right
