use Rattle.cwr_shape.proofs.lemmas.UncarriedOrders.{uncopied_whole_kept}
use Rattle.cwr_shape.proofs.laws.transmissions_without_copies_are_kept.Goals as goal

pub returns : goal.returns
returns c = uncopied_whole_kept
