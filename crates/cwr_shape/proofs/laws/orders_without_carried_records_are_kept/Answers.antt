use Rattle.cwr_shape.proofs.lemmas.UncarriedOrders.{uncarried_exact}
use Rattle.cwr_shape.proofs.laws.orders_without_carried_records_are_kept.Goals as goal

pub returns : goal.returns
returns c = uncarried_exact
