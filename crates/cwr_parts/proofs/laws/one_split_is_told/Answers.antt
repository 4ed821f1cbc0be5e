use Rattle.cwr_parts.proofs.lemmas.OneSplit.{one_split}
use Rattle.cwr_parts.proofs.laws.one_split_is_told.Goals as goal

pub returns : goal.returns
returns c = one_split
