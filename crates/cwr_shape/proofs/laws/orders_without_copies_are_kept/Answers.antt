use Rattle.cwr_shape.proofs.lemmas.UncarriedOrders.{uncopied_exact}
use Rattle.cwr_shape.proofs.laws.orders_without_copies_are_kept.Goals as goal

pub returns : goal.returns
returns c = uncopied_exact
