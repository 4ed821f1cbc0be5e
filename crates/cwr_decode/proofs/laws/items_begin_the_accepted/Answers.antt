use Rattle.cwr_decode.proofs.lemmas.ItemsOfAccepted.{items_of_accepted}
use Rattle.cwr_decode.proofs.laws.items_begin_the_accepted.Goals as goal

pub returns : goal.returns
returns c = items_of_accepted
