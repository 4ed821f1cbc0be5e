-- What the laws of selecting say.
use Rattle.std.specs.Prelude.{◌≡◌, ◌⊎◌, ℕ, Bool, true, not, length, map, filter, List, [], ◌∷◌, Some}
use Rattle.std.specs.List.{enumerate_from, flat_map}
use Rattle.std.specs.Option.{option_map_or}
use Rattle.cwr_lines.specs.Format.Records.{RecordValue}
use Rattle.cwr_shape.specs.declared.limits.Limits.{Limits}
use Rattle.cwr_values.specs.Format.Values.{GroupValue, TransmissionValue, IsTransmission, FitsIn}
use Rattle.cwr_values.specs.Format.Rows.{canonical_text}
use Rattle.cwr_judge.specs.Format.Ends.{IsAccepted}
use Rattle.cwr_select.specs.declared.changes.Changes.{Changes}
use Rattle.cwr_select.specs.Format.Selections.{Choice, selected}
use Rattle.cwr_select.specs.Format.Sent.{sent}

-- ---- what is selected is accepted

-- What is selected of a transmission and sent with any changes is one, within any limits that the whole is within, and its canonical text
-- is accepted as it.
abbrev pub SelectionIsAccepted : Type 0
SelectionIsAccepted = (limits : Limits) (changes : Changes) (choice : Choice) (v w : TransmissionValue) → IsTransmission v
    → FitsIn limits v → sent changes choice v ≡ Some w
    → IsTransmission w × FitsIn limits w × IsAccepted limits (canonical_text w) w (length (canonical_text w))

-- ---- the transactions that are selected

-- the transactions of groups, each with its group's GRH
abbrev pub transactions_of : List GroupValue → List (RecordValue × List RecordValue)
transactions_of groups = flat_map (λ g. map (λ t. (g.head, t)) g.transactions) groups

-- those of what is selected
abbrev pub selected_of : Choice → TransmissionValue → List (RecordValue × List RecordValue)
selected_of choice v = option_map_or (λ w. transactions_of w.groups) (selected choice v) []

-- a transaction with the place of its group, its own, and its group's GRH
abbrev pub Placed : Type 0
Placed = ℕ × ℕ × RecordValue × List RecordValue

-- those of groups, of which the first has that place
abbrev pub placed_in : ℕ → List GroupValue → List Placed
placed_in first groups =
    flat_map (λ g. map (λ t. (g.0, t.0, g.1.head, t.1)) (enumerate_from 0 g.1.transactions)) (enumerate_from first groups)

-- what is selected of a transmission has just the transactions that are chosen, in their order, each under the GRH that it had
abbrev pub ChosenAreSelected : Type 0
ChosenAreSelected = (choice : Choice) (v : TransmissionValue)
    → selected_of choice v ≡ map (λ p. (p.2, p.3)) (filter (λ p. choice p.0 p.1 p.3) (placed_in 1 v.groups))

-- the elements of the first list are those of the two others, in their order
abbrev pub IsMerge : {X : Type 0} → List X → List X → List X → Type 0
IsMerge [] xs ys = (xs ≡ []) × (ys ≡ [])
IsMerge {X} (z ∷ zs) xs ys =
    ((rest : List X) × (xs ≡ z ∷ rest) × IsMerge zs rest ys) ⊎ ((rest : List X) × (ys ≡ z ∷ rest) × IsMerge zs xs rest)

-- all that a choice doesn't choose
abbrev pub others : Choice → Choice
others choice = λ group place t. not (choice group place t)

-- what a choice selects and what it doesn't have all transactions of a transmission together, in their order
abbrev pub OthersAreTheRest : Type 0
OthersAreTheRest = (choice : Choice) (v : TransmissionValue)
    → IsMerge (transactions_of v.groups) (selected_of choice v) (selected_of (others choice) v)

-- ---- selecting all, and selecting twice

-- where all transactions are chosen, all of the transmission is selected
abbrev pub AllIsSelected : Type 0
AllIsSelected = (choice : Choice) (v : TransmissionValue) → IsTransmission v
    → ((group place : ℕ) (t : List RecordValue) → choice group place t ≡ true) → selected choice v ≡ Some v

-- a choice by the records alone selects of what it selected all
abbrev pub TwiceIsOnce : Type 0
TwiceIsOnce = (test : List RecordValue → Bool) (v w : TransmissionValue) → selected (λ group place t. test t) v ≡ Some w
    → selected (λ group place t. test t) w ≡ Some w
