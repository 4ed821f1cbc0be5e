-- What laws over decoders say.
use Rattle.std.specs.Prelude.{◌≡◌, ◌≤◌, ◌*◌, ℕ, true, List, [], ◌++◌, length}
use Rattle.cwr_values.specs.declared.items.Item.{Item}
use Rattle.cwr_values.specs.Format.Values.{TransmissionValue}
use Rattle.cwr_judge.specs.Format.Ends.{IsAccepted}
use Rattle.cwr_judge.specs.Format.Items.{AreFirstItems, value_items}
use Rattle.cwr_decode.specs.Steps.Machines.{Standing}
use Rattle.cwr_decode.specs.Steps.Represents.{Represents}

-- a decoder has used at most 1,025 bytes for each record that its limits hold
abbrev pub UsedBytesAreBounded : Type 0
UsedBytesAreBounded =
    (d : Standing) (input : List ℕ) (given : List Item) → Represents d input given → length input ≤ 1025 * d.tally.limits.records

-- the items that it handed out are the first of some transmission within its limits
abbrev pub ItemsAreTheFirst : Type 0
ItemsAreTheFirst =
    (d : Standing) (input : List ℕ) (given : List Item) → Represents d input given → AreFirstItems d.tally.limits given

-- where its input is the front of a text that is accepted, they are the first of that transmission's
abbrev pub ItemsBeginTheAccepted : Type 0
ItemsBeginTheAccepted =
    (d : Standing) (input more : List ℕ) (given : List Item) (v : TransmissionValue) (n : ℕ) → Represents d input given
    → (d.finished ≡ true → more ≡ []) → IsAccepted d.tally.limits (input ++ more) v n
    → (rest : List Item) × (value_items v ≡ given ++ rest)
