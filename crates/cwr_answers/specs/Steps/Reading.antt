-- What is kept while transmissions of acknowledgements are read, and how their reading ends.
use Rattle.std.specs.Prelude.{◌≡◌, ◌⊎◌, ℕ, Bool, false, List, [], ◌∷◌, All, map, Option, Some, None, Result, Ok, Err, if◌then◌else◌}
use Rattle.std.specs.List.{AllZip, flat_map}
use Rattle.cwr_shape.specs.declared.limits.Limits.{Limits}
use Rattle.cwr_values.specs.Format.Values.{TransmissionValue}
use Rattle.cwr_judge.specs.Format.Items.{value_items}
use Rattle.cwr_states.specs.declared.state_sets.States.{States}
use Rattle.cwr_tools.specs.declared.verdicts.ToolFault.{ToolFault}
use Rattle.cwr_tools.specs.declared.verdicts.ToolFault.TheVariants.{Reader}
use Rattle.cwr_sent.specs.Format.SentFacts.{content_of}
use Rattle.cwr_sent.specs.Format.SentRows.{IsFreshShown, SentShown, content_shown}
use Rattle.cwr_delivery.specs.declared.deliveries.Delivery.{Delivery}
use Rattle.cwr_delivery.specs.Format.Told.{no_history}
use Rattle.cwr_delivery.specs.Steps.Deliveries.{held_in, nothing_held}
use Rattle.cwr_acks.specs.declared.forms.Form.{Form}
use Rattle.cwr_acks.specs.declared.forms.Manner.{Manner}
use Rattle.cwr_acks.specs.Format.AckLines.{IsToldSo, Matched, Telling, matched_after, shown_name}
use Rattle.cwr_acks.specs.Steps.AckSteps.{IsKept, held_if}
use Rattle.cwr_files.specs.declared.faults.Fault.{Fault}
use Rattle.cwr_files.specs.declared.faults.Fault.TheVariants as faults
use Rattle.cwr_files.specs.Format.Files.{Texts}
use Rattle.cwr_files.specs.Steps.NewFiles.{HasKeptCount}
use Rattle.cwr_endings.specs.declared.endings.Status.{Status}
use Rattle.cwr_endings.specs.declared.endings.Status.TheVariants as statuses
use Rattle.cwr_endings.specs.declared.judgements.Judgement.{Judgement}
use Rattle.cwr_endings.specs.declared.stops.Stop.{Stop}
use Rattle.cwr_endings.specs.declared.sums.Sums.{Sums}
use Rattle.cwr_endings.specs.declared.stops.Stop.TheVariants as stops
use Rattle.cwr_endings.specs.Format.Endings.{worse_status}
use Rattle.cwr_reports.specs.Format.Endings.{EndsOnEach, EndsOnRead, IsWorstOf}
use Rattle.cwr_answers.specs.Format.Answered.{IsAcceptedAt}
use Rattle.cwr_answers.specs.Format.Endings.{AreSent, Has, IsUnsent, delivered_of, has_row, wanted_of, words_of}
use Rattle.cwr_answers.specs.Format.Failures.{IsFaultOfOne}

-- ---- what is kept

-- what is kept of what was sent stands for that, and for what was read
abbrev pub IsStanding : Option Delivery → Type 0
IsStanding delivery = (matched : Option Matched) × IsKept (held_if delivery) matched []

-- so it does after a transmission was read, or its input failed
abbrev pub StandsAfterRead : Result Judgement ToolFault → Option Delivery → Type 0
StandsAfterRead (Ok judgement) delivery = IsStanding delivery
StandsAfterRead (Err Reader) delivery = IsStanding delivery
StandsAfterRead (Err fault) delivery = Unit {0}

-- nothing was read so far that answers it
abbrev pub IsNew : Bool → Delivery → Type 0
IsNew by_place delivery =
    (sent : List SentShown) × (held_in delivery ≡ record (nothing_held by_place) { sent = sent }) × All IsFreshShown sent

-- names are as that form tells them
abbrev pub AreShown : Form → List (List ℕ) → Type 0
AreShown form names = (plain : List (List ℕ)) × (names ≡ map (shown_name form) plain)

abbrev pub IsShown : Form → List ℕ → Type 0
IsShown form name = (plain : List ℕ) × (name ≡ shown_name form plain)

-- lines are told so
abbrev pub TellsSo : Manner → Type 0
TellsSo manner = (telling : Telling) × IsToldSo telling manner

-- ---- how reading ends

-- an input couldn't be opened, or it or memory failed
abbrev pub IsUnread : Fault → Type 0
IsUnread (faults.Open of reason) = Unit {0}
IsUnread (faults.Read told) = Unit {0}
IsUnread faults.Memory = Unit {0}
IsUnread fault = ⊥

-- memory failed
abbrev pub IsMemory : Fault → Type 0
IsMemory faults.Memory = Unit {0}
IsMemory fault = ⊥

-- standard output or memory did
abbrev pub IsUntold : Stop → Type 0
IsUntold stops.Output = Unit {0}
IsUntold (stops.Fault fault) = IsMemory fault

-- a transmission that was sent is accepted, or refused
abbrev pub EndsSent : {A : Type 0} → Limits → Option Texts → Option (List ℕ) → List ℕ → Result (Result A Status) Fault → Type 0
EndsSent limits held standard name (Ok (Ok sent)) = Has limits false held standard (Some name) statuses.Good
EndsSent limits held standard name (Ok (Err status)) =
    Has limits false held standard (Some name) statuses.Refused × (status ≡ statuses.Refused)
EndsSent limits held standard name (Err fault) = IsUnread fault

-- so is each of them, or one
abbrev pub EndsAllSent : {A : Type 0} → Limits → Option Texts → Option (List ℕ) → List (List ℕ) → Result (Result A Status) Fault → Type 0
EndsAllSent limits held standard sent (Ok (Ok delivery)) = AreSent limits held standard sent
EndsAllSent limits held standard sent (Ok (Err status)) = IsUnsent limits held standard sent × (status ≡ statuses.Refused)
EndsAllSent limits held standard sent (Err fault) = IsUnread fault

-- the transmissions of acknowledgements were read
abbrev pub EndsOnFiles : Limits → Bool → Option Texts → Option (List ℕ) → List (List ℕ) → Result Status Stop → Type 0
EndsOnFiles limits whole held standard [] ending = EndsOnRead None limits (wanted_of whole) held standard None ending
EndsOnFiles limits whole held standard (name ∷ []) ending = EndsOnRead None limits (wanted_of whole) held standard (Some name) ending
EndsOnFiles limits whole held standard (name ∷ other ∷ names) ending =
    EndsOnEach None limits (wanted_of whole) held standard (name ∷ other ∷ names) ending

-- the status by the states of what was sent and read, of which nothing may be kept
abbrev pub status_with : States → Option Matched → Status → Status
status_with fail_on None status = status
status_with fail_on (Some matched) status =
    if has_row fail_on matched.delivered matched.history.told then worse_status status statuses.Refused else status

-- where all was good, it is that after these acknowledgements
abbrev pub IsStatusAfter : Limits → States → Option Texts → Option (List ℕ) → List (List ℕ) → Option Matched → Status → Status → Type 0
IsStatusAfter limits fail_on held standard names matched statuses.Good status =
    (answers : List TransmissionValue) × AllZip (IsAcceptedAt limits held standard) (words_of names) answers
    × (status ≡ status_with fail_on (matched_after matched (flat_map value_items answers)) statuses.Good)
IsStatusAfter limits fail_on held standard names matched other status = status ≡ other

-- so they were, and what became of what was sent decides too
abbrev pub EndsByStates : Limits → Bool → States → Option Texts → Option (List ℕ) → List (List ℕ) → Option Matched → Result Status Stop
    → Type 0
EndsByStates limits whole fail_on held standard names matched (Ok status) =
    (other : Status) × EndsOnFiles limits whole held standard names (Ok other)
    × IsStatusAfter limits fail_on held standard names matched other status
EndsByStates limits whole fail_on held standard names matched (Err stop) = EndsOnFiles limits whole held standard names (Err stop)

-- the status of what is kept, by its states
abbrev pub IsStatusKept : States → Option Delivery → Status → Status → Type 0
IsStatusKept fail_on delivery other status =
    (matched : Option Matched) → IsKept (held_if delivery) matched [] → status ≡ status_with fail_on matched other

-- ---- what was sent

-- each of what the words name is accepted, and that is kept
abbrev pub KeepsSent : Limits → Option Texts → Option (List ℕ) → List (List ℕ) → Delivery → Type 0
KeepsSent limits held standard sent delivery =
    (values : List TransmissionValue) × AllZip (IsAcceptedAt limits held standard) sent values
    × (map content_shown (held_in delivery).sent ≡ map content_of values)

-- so it is where something was sent, and else nothing is kept
abbrev pub HasSent : Limits → Bool → Option Texts → Option (List ℕ) → List (List ℕ) → Option Delivery → Type 0
HasSent limits by_place held standard [] delivery = delivery ≡ None
HasSent limits by_place held standard (one ∷ sent) delivery =
    (values : List TransmissionValue) × AllZip (IsAcceptedAt limits held standard) (one ∷ sent) values
    × IsKept (held_if delivery) (Some (record { delivered = delivered_of by_place values; history = no_history })) []

-- the status on what the word names was counted among the others, or it couldn't be read
abbrev pub IsOneMore : Limits → Bool → Option Texts → Option (List ℕ) → List ℕ → Status → Status → Type 0
IsOneMore limits whole held standard name before now =
    ((status : Status) × (now ≡ worse_status before status) × Has limits whole held standard (Some name) status) ⊎ (now ≡ statuses.Fault)

-- so it is, unless standard output or memory failed
abbrev pub CountsOne : Limits → Bool → Option Texts → Option (List ℕ) → List ℕ → Status → Status → Result (Unit {0}) Stop → Type 0
CountsOne limits whole held standard name before now (Ok u) = IsOneMore limits whole held standard name before now
CountsOne limits whole held standard name before now (Err stop) = IsUntold stop

-- several were, one after another
abbrev pub EndsOnSums : Limits → Bool → Option Texts → Option (List ℕ) → List (List ℕ) → Result Sums Stop → Type 0
EndsOnSums limits whole held standard names (Ok sums) = IsWorstOf None limits (wanted_of whole) held standard names sums.status
EndsOnSums limits whole held standard names (Err stop) = IsUntold stop

-- an input, standard output or memory failed
abbrev pub IsUnreadOrUntold : Stop → Type 0
IsUnreadOrUntold stops.Output = Unit {0}
IsUnreadOrUntold (stops.Fault fault) = IsUnread fault

-- ---- what failed

-- where what was sent was read no fewer failures of files are counted; else an input failed
abbrev pub CountsSent : {A : Type 0} → Result A Fault → ℕ → ℕ → Type 0
CountsSent (Ok read) old now = HasKeptCount old now
CountsSent (Err fault) old now = IsFaultOfOne fault old now
