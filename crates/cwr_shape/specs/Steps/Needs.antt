-- What must still come after some records before a transmission can end: the least numbers of it.
use Rattle.std.specs.Prelude.{◌≡◌, ℕ, ◌+◌, ◌≤◌, Bool, not, ◌&&◌, List, [], ◌∷◌, ◌++◌, length, count_by, if◌then◌else◌}
use Rattle.std.specs.List.{prefix_len}
use Rattle.cwr_fields.specs.declared.codes.TransactionType.{TransactionType}
use Rattle.cwr_fields.specs.declared.codes.TransactionType.TheVariants.{Agreement, NewWork, RevisedWork, Acknowledgement}
use Rattle.cwr_shape.specs.declared.symbols.Symbol.{Symbol}
use Rattle.cwr_shape.specs.declared.stages.Stage.{Stage}
use Rattle.cwr_shape.specs.declared.stages.Stage.TheVariants as stages
use Rattle.cwr_shape.specs.declared.stages.TransactionStep.{TransactionStep}
use Rattle.cwr_shape.specs.declared.stages.TransactionStep.TheVariants as steps
use Rattle.cwr_shape.specs.declared.stages.Needs.{Needs}
use Rattle.cwr_shape.specs.Format.Outlines.{IsWhole}
use Rattle.cwr_shape.specs.Format.LastSymbols.{is_grh}
use Rattle.cwr_shape.specs.Steps.Left.{StandsAt}
use Rattle.cwr_shape.specs.Steps.Stages.{stage_after}
use Rattle.cwr_shape.specs.Format.NextSymbols.{is_header_of, type_after, has_open_transaction, scope_by}
use Rattle.std.specs.Prelude.{Some}

-- a record of a transaction of the type, but not its header
abbrev pub is_later_of : TransactionType → Symbol → Bool
is_later_of ty s = has_open_transaction (scope_by (Some s)) && not (is_header_of ty s)

-- the further records of a transaction of the type that is open before these symbols: those up to the next header or the group's foot
abbrev pub later_records : TransactionType → List Symbol → ℕ
later_records ty rest = prefix_len (is_later_of ty) rest

-- the records of the first transaction that begins among the symbols, of which the first stands in a group of the type
abbrev pub first_transaction : TransactionType → List Symbol → ℕ
first_transaction ty [] = 0
first_transaction ty (s ∷ rest) =
    if is_header_of ty s then (1 + later_records ty rest) else first_transaction (type_after ty s) rest

-- the further records of the open transaction, or where none is open the records of the next one
abbrev pub transaction_to_come : Stage → List Symbol → ℕ
transaction_to_come (stages.Within ty steps.InGroup) rest = first_transaction ty rest
transaction_to_come (stages.Within ty step) rest = later_records ty rest
transaction_to_come stage rest = first_transaction Acknowledgement rest

-- with these symbols after them the records are a whole transmission, and these are their numbers
pub record EndsBy (xs rest : List Symbol) (needs : Needs) : Type 0 where
  pub whole : IsWhole (xs ++ rest)
  pub records_more : needs.records ≡ length rest
  pub groups_more : needs.groups ≡ count_by is_grh rest
  pub transaction_more : needs.transaction ≡ transaction_to_come (stage_after xs) rest

-- none of the numbers is greater than the other's
pub record AreAtMost (needs others : Needs) : Type 0 where
  pub records : needs.records ≤ others.records
  pub groups : needs.groups ≤ others.groups
  pub transaction : needs.transaction ≤ others.transaction

-- one way to end has exactly these numbers, and no way has a lower one in any of them
pub record AreNeeds (xs : List Symbol) (needs : Needs) : Type 0 where
  pub met : (rest : List Symbol) × EndsBy xs rest needs
  pub least : (rest : List Symbol) (others : Needs) → EndsBy xs rest others → AreAtMost needs others

-- ---- the table

abbrev pub needs_of : ℕ → ℕ → ℕ → Needs
needs_of records groups transaction = record { records = records; groups = groups; transaction = transaction }

-- after GRH, by the group's type
abbrev pub needs_in_group : TransactionType → Needs
needs_in_group Agreement = needs_of 6 0 4
needs_in_group NewWork = needs_of 4 0 2
needs_in_group RevisedWork = needs_of 4 0 2
needs_in_group Acknowledgement = needs_of 3 0 1

-- inside a group
abbrev pub needs_within : TransactionType → TransactionStep → Needs
needs_within ty steps.InGroup = needs_in_group ty
needs_within ty steps.Acked = needs_of 2 0 0
needs_within ty steps.Agreed = needs_of 5 0 3
needs_within ty steps.Territories = needs_of 4 0 2
needs_within ty (steps.OneSide role) = needs_of 3 0 1
needs_within ty steps.Both = needs_of 2 0 0
needs_within ty steps.Work = needs_of 3 0 1
needs_within ty steps.Controlled = needs_of 3 0 1
needs_within ty steps.Other = needs_of 3 0 1
needs_within ty steps.Writer = needs_of 2 0 0
needs_within ty steps.OtherWriter = needs_of 2 0 0
needs_within ty steps.Tail = needs_of 2 0 0

-- what must still come at a stage
abbrev pub needs_at : Stage → Needs
needs_at stages.Start = needs_of 5 1 1
needs_at stages.Opened = needs_of 4 1 1
needs_at (stages.Within ty step) = needs_within ty step
needs_at stages.Closed = needs_of 1 0 0
needs_at stages.Ended = needs_of 0 0 0

-- so it is after any records that stand at the stage
abbrev pub AreNeedsAt : Stage → Needs → Type 0
AreNeedsAt stage needs = (xs : List Symbol) → StandsAt xs stage → AreNeeds xs needs
