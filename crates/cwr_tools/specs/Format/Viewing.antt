-- What is seen of transmissions while they are read to be written anew.
use Rattle.std.specs.Prelude.{ℕ, List, ◌++◌, Option, IfSome}
use Rattle.cwr_shape.specs.declared.limits.Limits.{Limits}
use Rattle.cwr_values.specs.declared.items.Item.{Item}
use Rattle.cwr_values.specs.Format.Values.{TransmissionValue}
use Rattle.cwr_judge.specs.Format.Ends.{IsAccepted}
use Rattle.cwr_judge.specs.Format.Items.{value_items}

-- whatever a viewer had seen, it saw these items more
abbrev pub SeesItems : {V : Type 0} → (V → List Item → Type 0) → V → V → List Item → Type 0
SeesItems has_seen old new given = (items : List Item) → has_seen old items → has_seen new (items ++ given)

-- where a text is accepted, it saw the items of its transmission
abbrev pub SeesText : {V : Type 0} → Limits → (V → List Item → Type 0) → Option (List ℕ) → V → V → Type 0
SeesText limits has_seen before old new =
    IfSome before (λ text. (v : TransmissionValue) (n : ℕ) → IsAccepted limits text v n
    → SeesItems has_seen old new (value_items v))
