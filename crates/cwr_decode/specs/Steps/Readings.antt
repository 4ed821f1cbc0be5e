-- Reading a transmission from a reader: what is reported, and what that says of the bytes that the reader had.
use Rattle.std.specs.Prelude.{◌≡◌, ◌⊎◌, ℕ, ◌≤◌, true, false, List, [], ◌∷◌, ◌++◌, length, Option, Some, None, IfSome, Result, Ok}
use Rattle.std.specs.Prelude.{Err}
use Rattle.std.specs.Io.KnownBytes.{Consumes, IsAtEnd}
use Rattle.cwr_devices.specs.Format.Failures.{one_more_failure}
use Rattle.cwr_shape.specs.Format.Ranges.{LimitValues}
use Rattle.cwr_values.specs.declared.items.Item.{Item}
use Rattle.cwr_decode.specs.declared.outcomes.Outcome.{Outcome}
use Rattle.cwr_decode.specs.declared.outcomes.Outcome.TheVariants as outcomes
use Rattle.cwr_decode.specs.declared.machine.State.{State}
use Rattle.cwr_decode.specs.declared.machine.State.TheVariants as states
use Rattle.cwr_values.specs.declared.items.Item.TheVariants as items
use Rattle.cwr_decode.specs.declared.readings.Quick.{Quick}
use Rattle.cwr_decode.specs.declared.readings.Quick.TheVariants as quicks
use Rattle.cwr_decode.specs.declared.readings.ReadFault.{ReadFault}
use Rattle.cwr_decode.specs.declared.readings.ReadFault.TheVariants as faults
use Rattle.cwr_decode.specs.Format.Headline.{IsEndOf, answer_end}
use Rattle.cwr_decode.specs.Steps.Machines.{Standing, Empties, again, state_after}
use Rattle.cwr_decode.specs.Steps.Represents.{EndsInLf, GoesTooFar, Represents}
use Rattle.cwr_decode.specs.Steps.Calls.{IsLive, RunsOutOfMemory}

-- what a decoder's answer is reported as; where more is needed, nothing is reported
abbrev pub answer_of : Outcome → Option (Result (Option Item) ReadFault)
answer_of outcomes.More = None
answer_of (outcomes.Item item) = Some (Ok (Some item))
answer_of (outcomes.Refused refusal) = Some (Err (faults.Refused refusal))
answer_of (outcomes.Truncated records) = Some (Err (faults.Truncated records))
answer_of outcomes.Memory = Some (Err faults.Memory)
answer_of outcomes.Done = Some (Ok None)

-- the items that were read
abbrev pub items_read : Result (Option Item) ReadFault → List Item
items_read (Ok None) = []
items_read (Ok (Some item)) = item ∷ []
items_read (Err fault) = []

-- a line of the input ends with the used bytes: by its line feed, before a byte too many, or with the input
abbrev pub EndsLineOf : List ℕ → List ℕ → Type 0
EndsLineOf used input = (EndsInLf used ⊎ GoesTooFar used input) ⊎ (used ≡ input)

-- where it is reported: a refusal where a line ends; `Ok(None)` comes only after the end
abbrev pub ReportsAt : Result (Option Item) ReadFault → List ℕ → List ℕ → Type 0
ReportsAt (Ok None) used input = ⊥
ReportsAt (Err (faults.Refused refusal)) used input = EndsLineOf used input
ReportsAt answer used input = Unit {0}

-- what is reported is right of the input, of which these bytes were used
pub record IsRightOf (limits : LimitValues) (answer : Result (Option Item) ReadFault) (used input : List ℕ)
    (given : List Item) : Type 0 where
  pub ends : IsEndOf limits input given (answer_end (length used) answer)
  pub comes : ReportsAt answer used input

-- the state after what is reported
abbrev pub LeavesRead : Result (Option Item) ReadFault → State → Type 0
LeavesRead (Ok None) state = state ≡ states.Ended
LeavesRead (Ok (Some item)) state = state ≡ state_after item
LeavesRead (Err faults.Reader) state = state ≡ states.Reading
LeavesRead (Err (faults.Refused refusal)) state = state ≡ states.Refused refusal
LeavesRead (Err (faults.Truncated records)) state = state ≡ states.Truncated records
LeavesRead (Err faults.Memory) state = state ≡ states.Memory

-- after an item nothing is held of what comes after it: no byte is fed that the item doesn't need
abbrev pub EmptiesRead : Result (Option Item) ReadFault → Standing → Type 0
EmptiesRead (Ok (Some item)) d = Empties (outcomes.Item item) d
EmptiesRead answer d = Unit {0}

-- a reader's failures count one more where its fault is reported, and else they stay
abbrev pub CountsFault : ReadFault → ℕ → ℕ → Type 0
CountsFault faults.Reader old new = new ≡ one_more_failure old
CountsFault (faults.Refused refusal) old new = new ≡ old
CountsFault (faults.Truncated records) old new = new ≡ old
CountsFault faults.Memory old new = new ≡ old

abbrev pub CountsReader : Result (Option Item) ReadFault → ℕ → ℕ → Type 0
CountsReader (Ok item) old new = new ≡ old
CountsReader (Err fault) old new = CountsFault fault old new

-- where the decoder was given the end of the input, the reader has nothing left
abbrev pub IsSpent : Standing → Option (List ℕ) → Type 0
IsSpent d left = d.finished ≡ true → IsAtEnd left

-- At least so many bytes of the reader were fed, and more are needed.
pub record FeedsOn (least : ℕ) (old : Standing) (left : Option (List ℕ)) (new : Standing) (after : Option (List ℕ)) : Type 0 where
  pub bytes : List ℕ
  pub count : least ≤ length bytes
  pub consumed : Consumes left after bytes
  pub stands : (input : List ℕ) (given : List Item) → Represents old input given → Represents new (input ++ bytes) given
  pub live : IsLive old.state
  pub reading : new.state ≡ states.Reading
  pub fresh : new.finished ≡ false
  pub kept : old.tally.counts.records ≤ new.tally.counts.records
  pub limits : new.tally.limits ≡ old.tally.limits

-- Something is read. Just the bytes that the reader loses are fed: whatever the decoder represented before, with these and
-- with the item that is read it represents that. Where the reader's bytes are known, what is reported is right of all of them.
pub record Reads (old : Standing) (left : Option (List ℕ)) (answer : Result (Option Item) ReadFault) (new : Standing)
    (after : Option (List ℕ)) : Type 0 where
  pub bytes : List ℕ
  pub consumed : Consumes left after bytes
  pub stands : (input : List ℕ) (given : List Item) → Represents old input given
      → Represents new (input ++ bytes) (given ++ items_read answer)
  pub right : IsLive old.state → IsSpent old left → (input : List ℕ) (given : List Item) → Represents old input given
      → IfSome left (λ rest. IsRightOf old.tally.limits answer (input ++ bytes) (input ++ rest) (given ++ items_read answer))
  pub leaves : LeavesRead answer new.state
  pub empties : EmptiesRead answer new
  pub none : answer ≡ Ok None → old.state ≡ states.Ended
  pub memory : answer ≡ Err faults.Memory → IsLive old.state → RunsOutOfMemory old (length bytes) new
  pub input_ended : IsSpent old left → IfSome left (λ _. IsSpent new after)
  pub kept : old.tally.counts.records ≤ new.tally.counts.records
  pub fresh : answer ≡ Err faults.Reader → new.finished ≡ false
  pub limits : new.tally.limits ≡ old.tally.limits

-- what is read by quick tests
abbrev pub ReadsQuickly : Quick → Standing → Option (List ℕ) → Standing → Option (List ℕ) → Type 0
ReadsQuickly (quicks.Whole whole) old left new after = Reads old left (Ok (Some (items.Transaction whole))) new after
ReadsQuickly quicks.Failed old left new after = Reads old left (Err faults.Reader) new after
ReadsQuickly quicks.Nothing old left new after = FeedsOn 0 old left new after

-- a reader's failures count one more where it failed, and else they stay
abbrev pub CountsQuickly : Quick → ℕ → ℕ → Type 0
CountsQuickly (quicks.Whole whole) old new = new ≡ old
CountsQuickly quicks.Failed old new = new ≡ one_more_failure old
CountsQuickly quicks.Nothing old new = new ≡ old

-- what the decoder answered for good is answered again, and neither it nor the reader changes
abbrev pub ReadsAgain : {R : Type 0} → Standing → R → Result (Option Item) ReadFault → Standing → R → Type 0
ReadsAgain old before result new after =
    IfSome (again old.state) (λ outcome. (Some result ≡ answer_of outcome) × (new ≡ old) × (after ≡ before))

-- out of memory comes only with a record that was being added: where none was accepted, it was the one that waited, and the reader is as
-- it was
abbrev pub FindsNoMemory : {R : Type 0} → Standing → R → Result (Option Item) ReadFault → Standing → R → Type 0
FindsNoMemory old before result new after =
    result ≡ Err faults.Memory → again old.state ≡ None → new.tally.counts.records ≤ old.tally.counts.records
    → (old.state ≡ states.Pending) × (after ≡ before)
