-- The words in which the calls of a decoder speak of what it is.
use Rattle.std.specs.Prelude.{◌≡◌, ℕ, Bool, true, List, ◌++◌, take, Option, None, IfSome}
use Rattle.cwr_shape.specs.declared.stages.Stage.{Stage}
use Rattle.cwr_shape.specs.Format.Ranges.{LimitValues}
use Rattle.cwr_shape.specs.Steps.Tallies.{IsStageOf}
use Rattle.cwr_values.specs.declared.items.Item.{Item}
use Rattle.cwr_decode.specs.declared.outcomes.Outcome.{Outcome}
use Rattle.cwr_decode.specs.declared.outcomes.Outcome.TheVariants.{Memory}
use Rattle.cwr_decode.specs.declared.machine.State.TheVariants.{Pending}
use Rattle.cwr_decode.specs.Steps.Calls.{RefusesLast, RunsOutOfMemory, seen_input}
use Rattle.cwr_decode.specs.Steps.Machines.{Standing, Leaves, again, end_input}
use Rattle.cwr_decode.specs.Steps.Represents.{IsRight, Represents, items_out}

-- the limits of the transmission that is decoded
abbrev pub limits_of : Standing → LimitValues
limits_of d = d.tally.limits

-- how many records were accepted
abbrev pub accepted_records : Standing → ℕ
accepted_records d = d.tally.counts.records

-- the end of the input was taken
abbrev pub has_ended : Standing → Bool
has_ended d = d.finished

-- what was answered for good and is answered again, if anything was
abbrev pub final_answer : Standing → Option Outcome
final_answer d = again d.state

-- the decoder is where that answer leaves it
abbrev pub StandsAfter : Outcome → Standing → Type 0
StandsAfter outcome d = Leaves outcome d.state

-- an accepted record waits: the transaction that it ends was answered first
abbrev pub HasWaiting : Standing → Type 0
HasWaiting d = d.state ≡ Pending

-- the stage is that after any records that are counted so
abbrev pub IsStageNow : Standing → Stage → Type 0
IsStageNow d stage = IsStageOf d.tally stage

-- ---- what an answer says, where none was given for good before

-- the end that it reports is that of the input with the bytes of the piece that were used, whatever the piece goes on with
abbrev pub FeedsRight : Standing → List ℕ → ℕ → Outcome → Type 0
FeedsRight old piece used outcome =
    final_answer old ≡ None → (input : List ℕ) (given : List Item) → Represents old input given
    → IsRight (limits_of old) outcome (has_ended old) (input ++ take used piece) (seen_input (has_ended old) input piece)
    (given ++ items_out outcome)

-- it is that of the input, which has ended
abbrev pub FinishesRight : Standing → Outcome → Type 0
FinishesRight old outcome =
    final_answer old ≡ None → (input : List ℕ) (given : List Item) → Represents old input given
    → IsRight (limits_of old) outcome true input input (given ++ items_out outcome)

-- what is refused there is the last line, which ended with the input and isn't too long
abbrev pub FinishesLast : Standing → Outcome → Standing → Type 0
FinishesLast old outcome new =
    final_answer old ≡ None → (input : List ℕ) (given : List Item) → Represents old input given
    → RefusesLast outcome new input (given ++ items_out outcome)

-- Out of memory comes only with a record that was being added: where none was accepted, it was the one that waited, and no byte was
-- used.
abbrev pub LacksMemory : Standing → ℕ → Outcome → Standing → Type 0
LacksMemory old used outcome new = outcome ≡ Memory → final_answer old ≡ None → RunsOutOfMemory old used new

-- what was answered for good is answered again once the input has ended
abbrev pub EndsAgain : Standing → Outcome → Standing → Type 0
EndsAgain old outcome new = IfSome (final_answer old) (λ o. (outcome ≡ o) × (new ≡ end_input old))
