use Rattle.cwr_decode.proofs.lemmas.FirstItems.{first_items}
use Rattle.cwr_decode.proofs.laws.items_are_the_first.Goals as goal

pub returns : goal.returns
returns c = first_items
