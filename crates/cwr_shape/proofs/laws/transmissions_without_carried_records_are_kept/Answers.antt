use Rattle.cwr_shape.proofs.lemmas.UncarriedOrders.{whole_kept}
use Rattle.cwr_shape.proofs.laws.transmissions_without_carried_records_are_kept.Goals as goal

pub returns : goal.returns
returns c = whole_kept
