use Rattle.std.proofs.Common.{List, ℕ}
use Rattle.cwr_fields.specs.declared.codes.TransactionType.{TransactionType}
use Rattle.cwr_shape.specs.declared.limits.Limits.{Limits}
use Rattle.cwr_shape.specs.declared.symbols.Symbol.{Symbol}
use Rattle.cwr_shape.specs.Format.Shapes.{IsShape}
use Rattle.cwr_shape.specs.Format.UncarriedOrder.{IsUncarriedShape, IsUncopiedShape}
use Rattle.cwr_shape.proofs.lemmas.UncarriedOrders.{uncarried_forth, uncopied_forth}
use Rattle.cwr_values.specs.Format.FormerOrders.{Order}
use Rattle.cwr_values.specs.Format.Values.{TransmissionValue}
use Rattle.cwr_values.proofs.lemmas.FormerOrders.{transmission_kept}
use Rattle.cwr_judge.specs.Format.Ends.{IsAccepted}
use Rattle.cwr_judge.specs.Format.FormerEnds.{IsAcceptedIn}
use Rattle.cwr_decode.proofs.laws.accepted_in_former_orders.Goals as goal

accepted : (order : Order) → ((ty : TransactionType) (xs : List Symbol) → order ty xs → IsShape ty xs)
    → (limits : Limits) (text : List ℕ) (v : TransmissionValue) (n : ℕ) → IsAcceptedIn order limits text v n
    → IsAccepted limits text v n
accepted order kept limits text v n h = record {
  whole = transmission_kept order kept v h.whole;
  within = h.within;
  front = h.front;
  rest = h.rest;
  split = h.split;
  spelled = h.spelled;
  taken = h.taken;
}

pub returns : goal.returns
returns c = record { uncarried = accepted IsUncarriedShape uncarried_forth; uncopied = accepted IsUncopiedShape uncopied_forth }
