use Rattle.cwr_shape.specs.Format.UncarriedOrder.{IsUncarriedShape, IsUncopiedShape}
use Rattle.cwr_shape.proofs.lemmas.UncarriedOrders.{uncarried_forth, uncopied_forth}
use Rattle.cwr_values.proofs.lemmas.FormerOrders.{transmission_kept}
use Rattle.cwr_values.proofs.laws.transmissions_in_former_orders_are_kept.Goals as goal

pub returns : goal.returns
returns c = record {
  uncarried = transmission_kept IsUncarriedShape uncarried_forth;
  uncopied = transmission_kept IsUncopiedShape uncopied_forth;
}
