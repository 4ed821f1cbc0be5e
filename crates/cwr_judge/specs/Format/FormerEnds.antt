-- Texts that are accepted as transmissions in another order of records, for the laws on the orders without copies.
use Rattle.std.specs.Prelude.{◌≡◌, ℕ, min, List, ◌++◌, length}
use Rattle.cwr_lines.specs.Format.Lines.{closed}
use Rattle.cwr_shape.specs.declared.limits.Limits.{Limits}
use Rattle.cwr_values.specs.Format.FormerOrders.{Order, IsTransmissionIn}
use Rattle.cwr_values.specs.Format.Rows.{Spells}
use Rattle.cwr_values.specs.Format.Values.{TransmissionValue, FitsIn}

-- the text begins with a spelling of the transmission in that order, which is within the limits, and that takes n of its bytes
pub record IsAcceptedIn (order : Order) (limits : Limits) (text : List ℕ) (v : TransmissionValue) (n : ℕ) : Type 0 where
  pub whole : IsTransmissionIn order v
  pub within : FitsIn limits v
  pub front : List ℕ
  pub rest : List ℕ
  pub split : closed text ≡ front ++ rest
  pub spelled : Spells v front
  pub taken : n ≡ min (length front) (length text)
