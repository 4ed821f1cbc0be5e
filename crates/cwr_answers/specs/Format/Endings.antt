-- How a run over acknowledgements, and what they answer, ends.
use Rattle.std.specs.Prelude.{◌≡◌, ◌<◌, ◌⊎◌, ◌+◌, ℕ, Bool, false, List, [], ◌∷◌, All, Any, codes, count_by, map, Option, Some, None, Result, Ok, Err}
use Rattle.std.specs.Prelude.{if◌then◌else◌}
use Rattle.std.specs.List.{AllZip, flat_map}
use Rattle.cwr_shape.specs.declared.limits.Limits.{Limits}
use Rattle.cwr_values.specs.Format.Values.{TransmissionValue}
use Rattle.cwr_judge.specs.Format.Items.{value_items}
use Rattle.cwr_states.specs.declared.state_sets.States.{States}
use Rattle.cwr_sent.specs.Format.SentFacts.{content_of}
use Rattle.cwr_delivery.specs.Format.Told.{Delivered, Told, no_history, read_after}
use Rattle.cwr_state_rows.specs.Format.StateCounts.{counts_of, has_any}
use Rattle.cwr_state_rows.specs.Format.StateRows.{rows_of}
use Rattle.cwr_files.specs.declared.faults.Fault.TheVariants as faults
use Rattle.cwr_files.specs.Format.Files.{Texts}
use Rattle.cwr_files.specs.Format.Inputs.{IfRead, is_standard}
use Rattle.cwr_endings.specs.declared.endings.Status.{Status}
use Rattle.cwr_endings.specs.declared.endings.Status.TheVariants as statuses
use Rattle.cwr_endings.specs.declared.endings.Wanted.{Wanted}
use Rattle.cwr_endings.specs.declared.stops.Stop.{Stop}
use Rattle.cwr_endings.specs.declared.stops.Stop.TheVariants as stops
use Rattle.cwr_endings.specs.Format.Endings.{IsStatusBy}
use Rattle.cwr_reports.specs.Format.Endings.{Counts, IsWorstOf}
use Rattle.cwr_answers.specs.Format.Answered.{IsAcceptedAt}

-- what is wanted where bytes may follow a transmission or not, and no finding counts
abbrev pub wanted_of : Bool → Wanted
wanted_of whole = record { whole = whole; fail_on = None }

-- what a word names has the status
abbrev pub Has : Limits → Bool → Option Texts → Option (List ℕ) → Option (List ℕ) → Status → Type 0
Has limits whole held standard name status =
    IfRead held standard name (λ text. IsStatusBy (Counts None) limits (wanted_of whole) text status)

-- each of what was sent is accepted; or one is refused, or ends too early
abbrev pub AreSent : Limits → Option Texts → Option (List ℕ) → List (List ℕ) → Type 0
AreSent limits held standard sent = All (λ name. Has limits false held standard (Some name) statuses.Good) sent

abbrev pub IsUnsent : Limits → Option Texts → Option (List ℕ) → List (List ℕ) → Type 0
IsUnsent limits held standard sent = Any (λ name. Has limits false held standard (Some name) statuses.Refused) sent

-- what the acknowledgements are read from has the status: standard input, the one file, or several, of which it is the worst
abbrev pub IsStatusOfAnswers : Limits → Bool → Option Texts → Option (List ℕ) → List (List ℕ) → Status → Type 0
IsStatusOfAnswers limits whole held standard [] status = Has limits whole held standard None status
IsStatusOfAnswers limits whole held standard (name ∷ []) status = Has limits whole held standard (Some name) status
IsStatusOfAnswers limits whole held standard (name ∷ other ∷ names) status =
    IsWorstOf None limits (wanted_of whole) held standard (name ∷ other ∷ names) status

-- ---- what became of what was sent

-- these transmissions were sent, and are answered by what acknowledgements of them name, or by the place alone
abbrev pub delivered_of : Bool → List TransmissionValue → Delivered
delivered_of by_place values = record { by_place = by_place; sent = map content_of values }

-- the words that name acknowledgements, or the one of standard input without any
abbrev pub words_of : List (List ℕ) → List (List ℕ)
words_of [] = codes "-" ∷ []
words_of names = names

-- a row that the table has of what was sent, and of these acknowledgements, has one of the states
abbrev pub has_row : States → Delivered → List Told → Bool
has_row states delivered told = has_any (counts_of delivered (rows_of delivered told [])) states

-- it is so, or not, of what the words name that was sent, and of the acknowledgements in what the others name, read one after another
pub record HasRow (limits : Limits) (by_place : Bool) (states : States) (held : Option Texts) (standard : Option (List ℕ))
    (sent names : List (List ℕ)) (has : Bool) : Type 0 where
  pub values : List TransmissionValue
  pub answers : List TransmissionValue
  pub were_sent : AllZip (IsAcceptedAt limits held standard) sent values
  pub were_read : AllZip (IsAcceptedAt limits held standard) names answers
  pub has_so : has ≡ has_row states (delivered_of by_place values) (read_after no_history (flat_map value_items answers)).told

-- The status is that of what the acknowledgements are read from. But where all of that is good, and something was sent, it is that of a refusal
-- where a row has one of the states that end a run so.
abbrev pub IsStatusByStates : Limits → Bool → States → Option Texts → Option (List ℕ) → List (List ℕ) → List (List ℕ) → Status → Status
    → Type 0
IsStatusByStates limits by_place fail_on held standard names (one ∷ sent) statuses.Good status =
    (has : Bool) × HasRow limits by_place fail_on held standard (one ∷ sent) (words_of names) has
    × (status ≡ (if has then statuses.Refused else statuses.Good))
IsStatusByStates limits by_place fail_on held standard names sent other status = status ≡ other

-- ---- a run

-- how many of the words name standard input, where it is read for acknowledgements without any
abbrev pub unnamed : List (List ℕ) → ℕ
unnamed [] = 1
unnamed names = 0

abbrev pub standard_inputs : List (List ℕ) → List (List ℕ) → ℕ
standard_inputs names sent =
    count_by (λ name. is_standard (Some name)) names + count_by (λ name. is_standard (Some name)) sent + unnamed names

-- Where each of what was sent is accepted, the status is that of what the acknowledgements are read from, and of the states; where one isn't,
-- it is that of a refusal. Else an input couldn't be opened, or it, standard output or memory failed, or standard input, which is there once,
-- was named twice.
abbrev pub EndsOnAnswers : Limits → Bool → Bool → States → Option Texts → Option (List ℕ) → List (List ℕ) → List (List ℕ)
    → Result Status Stop → Type 0
EndsOnAnswers limits whole by_place fail_on held standard names sent (Ok status) =
    (IsUnsent limits held standard sent × (status ≡ statuses.Refused))
    ⊎ (AreSent limits held standard sent
    × ((other : Status) × IsStatusOfAnswers limits whole held standard names other
    × IsStatusByStates limits by_place fail_on held standard names sent other status))
EndsOnAnswers limits whole by_place fail_on held standard names sent (Err stops.Output) = Unit {0}
EndsOnAnswers limits whole by_place fail_on held standard names sent (Err (stops.Fault (faults.Open of reason))) = Unit {0}
EndsOnAnswers limits whole by_place fail_on held standard names sent (Err (stops.Fault (faults.Read told))) = Unit {0}
EndsOnAnswers limits whole by_place fail_on held standard names sent (Err (stops.Fault faults.Memory)) = Unit {0}
EndsOnAnswers limits whole by_place fail_on held standard names sent (Err (stops.Fault (faults.IsTwice of))) = 1 < standard_inputs names sent
EndsOnAnswers limits whole by_place fail_on held standard names sent (Err (stops.Fault fault)) = ⊥
