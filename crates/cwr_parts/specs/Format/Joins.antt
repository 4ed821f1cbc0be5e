-- The transmission to which inputs are joined, and how a join ends.
use Rattle.std.specs.Prelude.{◌≡◌, ℕ, Bool, true, false, length, sum_by, filter, List, [], ◌∷◌, ◌++◌, Option, Some, Result, Ok}
use Rattle.std.specs.Prelude.{Err, MatchResult}
use Rattle.std.specs.List.{AllZip, flat_map}
use Rattle.std.specs.Io.KnownBytes.{Appends}
use Rattle.cwr_devices.specs.Format.Failures.{one_more_failure}
use Rattle.cwr_lines.specs.Format.Records.{RecordValue}
use Rattle.cwr_shape.specs.declared.limits.Limits.{Limits}
use Rattle.cwr_values.specs.declared.items.Item.{Item}
use Rattle.cwr_values.specs.declared.items.Item.TheVariants.{Opened, Ended}
use Rattle.cwr_values.specs.Format.Values.{TransmissionValue, IsTransmission, FitsIn}
use Rattle.cwr_values.specs.Format.Rows.{rows, canonical_text}
use Rattle.cwr_judge.specs.Format.Ends.{IsAccepted}
use Rattle.cwr_judge.specs.Format.Items.{group_items, records_in, value_items}
use Rattle.cwr_decode.specs.Format.Runs.{TakesFront}
use Rattle.cwr_encode.specs.Format.Written.{IsPart}
use Rattle.cwr_tools.specs.declared.verdicts.JoinReport.{JoinReport}
use Rattle.cwr_tools.specs.declared.verdicts.JoinFault.{JoinFault}
use Rattle.cwr_tools.specs.declared.verdicts.ToolFault.{ToolFault}
use Rattle.cwr_tools.specs.declared.verdicts.ToolFault.TheVariants.{Reader, Writer, Memory}
use Rattle.cwr_tools.specs.Format.Viewing.{SeesItems}
use Rattle.cwr_parts.specs.Format.Splits.{join_of}

-- ---- the items of a join

-- HDR is joined of the first input only, and TRL comes once, at the end
abbrev pub is_joined : Bool → Item → Bool
is_joined first (Opened r) = first
is_joined first Ended = false
is_joined first item = true

-- the next input is the first one
abbrev pub is_first : List TransmissionValue → Bool
is_first [] = true
is_first (v ∷ others) = false

-- the items of whole inputs: HDR of the first, and the groups of all
abbrev pub joined_inputs : List TransmissionValue → List Item
joined_inputs [] = []
joined_inputs (v ∷ others) = Opened v.opening ∷ flat_map group_items (flat_map (λ w. w.groups) (v ∷ others))

-- and those of the next input that were handed out
abbrev pub joined_items : List TransmissionValue → List Item → List Item
joined_items inputs given = joined_inputs inputs ++ filter (is_joined (is_first inputs)) given

-- their records
abbrev pub joined_records : List TransmissionValue → List Item → List RecordValue
joined_records inputs given = records_in (joined_items inputs given)

-- the inputs, of which there is one, are joined to that transmission
abbrev pub AreJoined : List TransmissionValue → TransmissionValue → Type 0
AreJoined [] joined = ⊥
AreJoined (v ∷ others) joined = joined ≡ join_of v others

-- the numbers of a transmission that was joined of so many inputs
abbrev pub join_report : ℕ → TransmissionValue → JoinReport
join_report inputs v =
    record {
      inputs = inputs;
      groups = length v.groups;
      transactions = sum_by (λ g. length g.transactions) v.groups;
      records = length (rows v);
    }

-- ---- what the readers lose

-- the reader's bytes begin with the transmission, just that front was consumed, and the reader didn't fail
pub record TakesInput {R : Type 0} (limits : Limits) (remaining : R → Option (List ℕ)) (failures : R → ℕ) (old : R)
    (v : TransmissionValue) (new : R) : Type 0 where
  pub takes : TakesFront limits (remaining old) v (remaining new)
  pub quiet : failures new ≡ failures old

-- each reader's do
abbrev pub TakeInputs : {R : Type 0} → Limits → (R → Option (List ℕ)) → (R → ℕ) → List R → List TransmissionValue → List R
    → Type 0
TakeInputs limits remaining failures [] [] [] = Unit {0}
TakeInputs limits remaining failures (old ∷ olds) (v ∷ vs) (new ∷ news) =
    TakesInput limits remaining failures old v new × TakeInputs limits remaining failures olds vs news
TakeInputs limits remaining failures olds vs news = ⊥

-- ---- how a join ends

-- All inputs are accepted. After what the writer had, the canonical text of the transmission is written to which they are
-- joined, which is within the limits, and the report has its numbers.
pub record JoinsAll {R W : Type 0} (limits : Limits) (remaining : R → Option (List ℕ)) (failures : R → ℕ)
    (contents : W → Option (List ℕ)) (before after : List R) (old new : W) (report : JoinReport) : Type 0 where
  pub inputs : List TransmissionValue
  pub taken : TakeInputs limits remaining failures before inputs after
  pub joined : TransmissionValue
  pub joined_of : AreJoined inputs joined
  pub whole : IsTransmission joined
  pub within : FitsIn limits joined
  pub written : Appends (contents old) (contents new) (canonical_text joined)
  pub reported : report ≡ join_report (length before) joined

-- After what the writer had, the canonical text of these records is written: some transmission within the limits begins with
-- them, and its canonical text with that one.
pub record WritesPart {W : Type 0} (limits : Limits) (contents : W → Option (List ℕ)) (records : List RecordValue)
    (old new : W) : Type 0 where
  pub text : List ℕ
  pub part : IsPart limits records text
  pub written : Appends (contents old) (contents new) text

-- what is written once all inputs are accepted: the canonical text of the transmission to which they are joined
pub record IsWholeText (limits : Limits) (inputs : List TransmissionValue) (before after : Option (List ℕ)) (text : List ℕ) : Type
    0 where
  pub last : TransmissionValue
  pub taken : TakesFront limits before last after
  pub joined : TransmissionValue
  pub joined_of : AreJoined (inputs ++ last ∷ []) joined
  pub whole : IsTransmission joined
  pub within : FitsIn limits joined
  pub text_is : text ≡ canonical_text joined

-- the reader's failures count one more where its fault is reported, and else they stay
abbrev pub CountsInputFault : ToolFault → ℕ → ℕ → Type 0
CountsInputFault Reader old new = new ≡ one_more_failure old
CountsInputFault fault old new = new ≡ old

-- the writer's failures count one more where its fault is reported, and else they stay
abbrev pub CountsOutputFault : ToolFault → ℕ → ℕ → Type 0
CountsOutputFault (Writer written) old new = new ≡ one_more_failure old
CountsOutputFault fault old new = new ≡ old

abbrev pub CountsJoinWriter : {A : Type 0} → Result A JoinFault → ℕ → ℕ → Type 0
CountsJoinWriter (Ok x) old new = new ≡ old
CountsJoinWriter (Err stopped) old new = CountsOutputFault stopped.fault old new

-- ---- what is answered where all inputs are accepted

-- the reader's bytes are known, and accepted as the transmission
abbrev pub HasInput : {R : Type 0} → Limits → (R → Option (List ℕ)) → R → TransmissionValue → Type 0
HasInput limits remaining reader v = (text : List ℕ) × (n : ℕ) × (remaining reader ≡ Some text) × IsAccepted limits text v n

-- the fault is one of a device, or of memory
abbrev pub IsOfDevice : ToolFault → Type 0
IsOfDevice Reader = Unit {0}
IsOfDevice Memory = Unit {0}
IsOfDevice (Writer written) = Unit {0}
IsOfDevice fault = ⊥

-- where the inputs are accepted as transmissions that are joined to one within the limits, that one is written, unless a
-- device or memory failed
abbrev pub JoinsAccepted : {R W : Type 0} → Limits → (R → Option (List ℕ)) → (W → Option (List ℕ)) → List R → W → W
    → Result JoinReport JoinFault → Type 0
JoinsAccepted limits remaining contents before old new result = (inputs : List TransmissionValue) (joined : TransmissionValue)
    → AllZip (HasInput limits remaining) before inputs → AreJoined inputs joined → FitsIn limits joined
    → MatchResult result
    (λ report. (report ≡ join_report (length before) joined) × Appends (contents old) (contents new) (canonical_text joined))
    (λ stopped. IsOfDevice stopped.fault)

-- where the readers' bytes are accepted, a viewer saw the items of all their transmissions
abbrev pub SeesInputs : {R V : Type 0} → Limits → (R → Option (List ℕ)) → (V → List Item → Type 0) → List R → V → V → Type 0
SeesInputs limits remaining has_seen readers old new = (inputs : List TransmissionValue)
    → AllZip (HasInput limits remaining) readers inputs → SeesItems has_seen old new (flat_map value_items inputs)
