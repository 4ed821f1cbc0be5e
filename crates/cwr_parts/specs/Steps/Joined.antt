-- What was joined so far: an encoder and numbers, and what one item and one input more do to them.
use Rattle.std.specs.Prelude.{◌≡◌, ℕ, ◌+◌, ◌<◌, Bool, false, count_by, length, filter, map, List, [], ◌∷◌, ◌++◌, Option, Result}
use Rattle.std.specs.Prelude.{Ok, Err, MatchResult}
use Rattle.std.specs.List.{AllByRecursion, after_last}
use Rattle.std.specs.Io.KnownBytes.{Appends}
use Rattle.cwr_devices.specs.Format.Failures.{one_more_failure}
use Rattle.cwr_shape.specs.declared.limits.Limits.{Limits}
use Rattle.cwr_shape.specs.declared.limits.LimitKind.{LimitKind}
use Rattle.cwr_shape.specs.declared.symbols.Symbol.{Symbol}
use Rattle.cwr_shape.specs.declared.tallies.Bar.TheVariants as bars
use Rattle.cwr_shape.specs.Format.Outlines.{Continues}
use Rattle.cwr_shape.specs.Format.Ranges.{LimitValues, AreInRange}
use Rattle.cwr_shape.specs.Format.NextSymbols.{IsBarredFirst}
use Rattle.cwr_values.specs.declared.items.Item.{Item}
use Rattle.cwr_values.specs.declared.items.Item.TheVariants.{Opened, GroupOpened, Transaction, GroupClosed, Ended}
use Rattle.cwr_values.specs.Format.Values.{TransmissionValue, IsTransmission, FitsIn, symbol_of}
use Rattle.cwr_values.specs.Format.Rows.{canonical_text}
use Rattle.cwr_judge.specs.Format.Items.{opens_group, is_transaction, records_in, value_items}
use Rattle.cwr_decode.specs.declared.readings.ReadFault.{ReadFault}
use Rattle.cwr_decode.specs.declared.readings.ReadFault.TheVariants as read_faults
use Rattle.cwr_lines.specs.Format.Records.{RecordValue}
use Rattle.cwr_decode.specs.Format.Runs.{TakesFront}
use Rattle.cwr_encode.specs.declared.encoders.Encoder.{Encoder}
use Rattle.cwr_encode.specs.declared.encoders.EncodeFault.{EncodeFault}
use Rattle.cwr_encode.specs.declared.encoders.EncodeFault.TheVariants as encode_faults
use Rattle.cwr_encode.specs.Format.Encoders.{JudgesOpening, JudgesGroup, JudgesTransaction, JudgesFoot}
use Rattle.cwr_encode.specs.Steps.Encoders.{Encodes, bytes_written, is_stopped, encoder_limits, target_of}
use Rattle.cwr_encode.specs.Format.Finishing.{HasFront}
use Rattle.cwr_parts.specs.declared.joined.Joined.{Joined}
use Rattle.cwr_tools.specs.declared.totals.Totals.{Totals}
use Rattle.cwr_tools.specs.declared.verdicts.JoinFault.{JoinFault}
use Rattle.cwr_tools.specs.declared.verdicts.JoinReport.{JoinReport}
use Rattle.cwr_tools.specs.declared.verdicts.ToolFault.{ToolFault}
use Rattle.cwr_tools.specs.declared.verdicts.ToolFault.TheVariants.{Reader, Writer, Memory, Refused, Truncated, Limit}
use Rattle.cwr_tools.specs.Steps.Reports.{HasHandedOut}
use Rattle.cwr_parts.specs.Format.Joins.{AreJoined, CountsInputFault, CountsJoinWriter, TakeInputs, is_first, is_joined}
use Rattle.cwr_parts.specs.Format.Joins.{join_report, joined_inputs}
use Rattle.cwr_parts.specs.Steps.Joins.{StopsJoin}
use Rattle.cwr_tools.specs.Format.Viewing.{SeesItems}
use Rattle.cwr_tools.specs.Steps.Verdicts.{StopsAfter}

-- the numbers are those of the items
pub record AreCounted (counts : Totals) (items : List Item) : Type 0 where
  pub groups : counts.groups ≡ count_by opens_group items
  pub transactions : counts.transactions ≡ count_by is_transaction items
  pub in_group : counts.in_group ≡ count_by is_transaction (after_last opens_group items)
  pub records : counts.records ≡ length (records_in items)

-- the encoder accepted the records of these items, and they are counted
pub record HasJoined {W : Type 0} (contents : W → Option (List ℕ)) (start : Option (List ℕ)) (items : List Item)
    (j : Joined W) : Type 0 where
  pub encodes : Encodes contents start (records_in items) j.encoder
  pub counted : AreCounted j.counts items

-- the writer to which it writes
abbrev pub joined_writer : {W : Type 0} → Joined W → W
joined_writer j = target_of j.encoder

-- whatever items were joined, these were joined more, and the writer didn't fail
pub record JoinsOn {W : Type 0} (contents : W → Option (List ℕ)) (failures : W → ℕ) (added : List Item)
    (old new : Joined W) : Type 0 where
  pub more : (start : Option (List ℕ)) (items : List Item) → HasJoined contents start items old
      → HasJoined contents start (items ++ added) new
  pub unfailed : is_stopped new.encoder ≡ false
  pub quiet : failures (joined_writer new) ≡ failures (joined_writer old)
  pub limits : encoder_limits new.encoder ≡ encoder_limits old.encoder

-- whatever items were joined, the records of these were accepted more, and the writer failed; so many bytes are written in all
pub record FailsOn {W : Type 0} (contents : W → Option (List ℕ)) (failures : W → ℕ) (added : List Item) (written : ℕ)
    (old new : Joined W) : Type 0 where
  pub more : (start : Option (List ℕ)) (items : List Item) → HasJoined contents start items old
      → Encodes contents start (records_in (items ++ added)) new.encoder
  pub counted : written ≡ bytes_written new.encoder
  pub failed : failures (joined_writer new) ≡ one_more_failure (failures (joined_writer old))
  pub limits : encoder_limits new.encoder ≡ encoder_limits old.encoder

-- whatever items were joined, with the records of these no transmission continues within the limit
abbrev pub IsBarredAfter : {W : Type 0} → (W → Option (List ℕ)) → LimitValues → List Item → LimitKind → Joined W → Type 0
IsBarredAfter contents limits added limit j = (start : Option (List ℕ)) (items : List Item) → HasJoined contents start items j
    → IsBarredFirst limits (λ P. Continues P (map symbol_of (records_in (items ++ added)))) (bars.Limit limit)

-- ---- one item

-- the call of an encoder that an item is for, judged
abbrev pub JudgesItem : LimitValues → Item → List Symbol → Result (Unit {0}) EncodeFault → Type 0
JudgesItem limits (Opened r) xs answer = JudgesOpening limits r xs answer
JudgesItem limits (GroupOpened r) xs answer = JudgesGroup limits r xs answer
JudgesItem limits (Transaction t) xs answer = JudgesTransaction limits t xs answer
JudgesItem limits (GroupClosed r) xs answer = JudgesFoot limits r xs answer
JudgesItem limits Ended xs answer = ⊥

-- whatever records were written, the call for the item is judged after them
abbrev pub JudgesNext : {W : Type 0} → (W → Option (List ℕ)) → Item → Result (Unit {0}) EncodeFault → Encoder W → Type 0
JudgesNext contents item result e = (start : Option (List ℕ)) (records : List RecordValue) → Encodes contents start records e
    → JudgesItem (encoder_limits e) item (map symbol_of records) result

-- what a fault of an encoder is reported as, where that is no mistake
abbrev pub is_fault_of : EncodeFault → ToolFault → Type 0
is_fault_of (encode_faults.Limit limit) fault = fault ≡ Limit limit
is_fault_of (encode_faults.Writer written) fault = fault ≡ Writer written
is_fault_of other fault = ⊥

-- with these items some transmission continues
pub record MayAdd {W : Type 0} (contents : W → Option (List ℕ)) (added : List Item) (j : Joined W) : Type 0 where
  pub start : Option (List ℕ)
  pub items : List Item
  pub joined : HasJoined contents start items j
  pub range : AreInRange (encoder_limits j.encoder)
  pub value : TransmissionValue
  pub whole : IsTransmission value
  pub rest : List Item
  pub split : value_items value ≡ items ++ added ++ rest

-- The items are joined, or a limit refuses them and nothing changes, or the writer fails in them.
abbrev pub AddsItems : {W : Type 0} → (W → Option (List ℕ)) → (W → ℕ) → List Item → Result (Unit {0}) ToolFault → Joined W
    → Joined W → Type 0
AddsItems contents failures added (Ok u) old new = JoinsOn contents failures added old new
AddsItems contents failures added (Err (Limit limit)) old new =
    IsBarredAfter contents (encoder_limits old.encoder) added limit old × (new ≡ old)
AddsItems contents failures added (Err (Writer written)) old new = FailsOn contents failures added written old new
AddsItems contents failures added (Err fault) old new = ⊥

-- ---- one input

-- whole inputs were joined, of which the next one is the first or not
pub record IsBetweenInputs {W : Type 0} (contents : W → Option (List ℕ)) (first : Bool) (j : Joined W) : Type 0 where
  pub start : Option (List ℕ)
  pub inputs : List TransmissionValue
  pub each : AllByRecursion IsTransmission inputs
  pub first_is : first ≡ is_first inputs
  pub joined : HasJoined contents start (joined_inputs inputs) j

-- the reading of an input stopped with that fault, after these items
abbrev pub StopsReadingInput : {W : Type 0} → Limits → (W → Option (List ℕ)) → (W → ℕ) → Bool → ReadFault → Option (List ℕ)
    → Option (List ℕ) → Joined W → Joined W → Type 0
StopsReadingInput limits contents failures first fault before after old new =
    (given : List Item) × StopsAfter limits fault before after given
    × JoinsOn contents failures (filter (is_joined first) given) old new

-- An input is accepted and joined, or its reading stops, an item of it passes a limit, or the writer fails in one.
abbrev pub AddsInput : {W : Type 0} → Limits → (W → Option (List ℕ)) → (W → ℕ) → Bool → Option (List ℕ) → Option (List ℕ)
    → Result (Unit {0}) ToolFault → Joined W → Joined W → Type 0
AddsInput limits contents failures first before after (Ok u) old new =
    (v : TransmissionValue) × TakesFront limits before v after
    × JoinsOn contents failures (filter (is_joined first) (value_items v)) old new
AddsInput limits contents failures first before after (Err Reader) old new =
    StopsReadingInput limits contents failures first read_faults.Reader before after old new
AddsInput limits contents failures first before after (Err Memory) old new =
    StopsReadingInput limits contents failures first read_faults.Memory before after old new
AddsInput limits contents failures first before after (Err (Refused refusal)) old new =
    StopsReadingInput limits contents failures first (read_faults.Refused refusal) before after old new
AddsInput limits contents failures first before after (Err (Truncated records)) old new =
    StopsReadingInput limits contents failures first (read_faults.Truncated records) before after old new
AddsInput limits contents failures first before after (Err (Limit limit)) old new =
    (given : List Item) × (item : Item) × HasHandedOut limits before after (given ++ item ∷ [])
    × JoinsOn contents failures (filter (is_joined first) given) old new
    × IsBarredAfter contents limits (filter (is_joined first) (given ++ item ∷ [])) limit old
AddsInput limits contents failures first before after (Err (Writer written)) old new =
    (given : List Item) × HasHandedOut limits before after given
    × FailsOn contents failures (filter (is_joined first) given) written old new
AddsInput limits contents failures first before after (Err fault) old new = ⊥

-- what the fault of a reading is reported as
abbrev pub reading_fault : ReadFault → ToolFault
reading_fault read_faults.Reader = Reader
reading_fault (read_faults.Refused refusal) = Refused refusal
reading_fault (read_faults.Truncated records) = Truncated records
reading_fault read_faults.Memory = Memory

-- the reader's failures count one more where its fault is reported, and else they stay
abbrev pub CountsAddFault : Result (Unit {0}) ToolFault → ℕ → ℕ → Type 0
CountsAddFault (Ok u) old new = new ≡ old
CountsAddFault (Err fault) old new = CountsInputFault fault old new

-- ---- all inputs

-- all inputs are accepted and joined
pub record AddsAll {R W : Type 0} (limits : Limits) (remaining : R → Option (List ℕ)) (failures : R → ℕ)
    (contents : W → Option (List ℕ)) (before after : List R) (old new : Joined W) : Type 0 where
  pub inputs : List TransmissionValue
  pub taken : TakeInputs limits remaining failures before inputs after
  pub joined : HasJoined contents (contents (joined_writer old)) (joined_inputs inputs) new
  pub unfailed : is_stopped new.encoder ≡ false
  pub limits_are : encoder_limits new.encoder ≡ limits

-- all are, or a fault comes while one is in hand
abbrev pub AddsInputs : {R W : Type 0} → Limits → (R → Option (List ℕ)) → (R → ℕ) → (W → Option (List ℕ)) → List R → List R
    → Result (Unit {0}) JoinFault → Joined W → Joined W → Type 0
AddsInputs limits remaining failures contents before after (Ok u) old new =
    AddsAll limits remaining failures contents before after old new
AddsInputs limits remaining failures contents before after (Err stopped) old new =
    StopsJoin limits remaining failures contents before after (joined_writer old) (joined_writer new) stopped

-- ---- the end

-- inputs were joined, so many and at least one
pub record HasJoinedAll {W : Type 0} (contents : W → Option (List ℕ)) (count : ℕ) (j : Joined W) : Type 0 where
  pub start : Option (List ℕ)
  pub inputs : List TransmissionValue
  pub counted : length inputs ≡ count
  pub range : AreInRange (encoder_limits j.encoder)
  pub some : 0 < count
  pub each : AllByRecursion IsTransmission inputs
  pub joined : HasJoined contents start (joined_inputs inputs) j

-- what a join answers whose encoder finished so, where all but TRL is counted
abbrev pub IsAnswerOf : Result ℕ EncodeFault → Totals → ℕ → Result JoinReport JoinFault → Type 0
IsAnswerOf (Ok n) counts inputs result =
    result
    ≡ Ok (record { inputs = inputs; groups = counts.groups; transactions = counts.transactions; records = counts.records + 1 })
IsAnswerOf (Err other) counts inputs result =
    (fault : ToolFault) × is_fault_of other fault × (result ≡ Err (record { input = inputs; fault = fault }))

-- After all inputs the canonical text of the transmission is written to which they are joined, and the report has its numbers;
-- where the writer fails, so many of the text's first bytes are.
pub record EndsWithAll {W : Type 0} (contents : W → Option (List ℕ)) (count : ℕ) (start : Option (List ℕ))
    (inputs : List TransmissionValue) (old : Joined W) (new : W) (result : Result JoinReport JoinFault) : Type 0 where
  pub joined : TransmissionValue
  pub joined_of : AreJoined inputs joined
  pub whole : IsTransmission joined
  pub within : FitsIn (encoder_limits old.encoder) joined
  pub ends : MatchResult result
      (λ report. (report ≡ join_report count joined) × Appends start (contents new) (canonical_text joined))
      (λ stopped. (stopped.input ≡ count) × (written : ℕ) × (stopped.fault ≡ Writer written)
      × HasFront contents start new (canonical_text joined) written)

abbrev pub EndsJoin : {W : Type 0} → (W → Option (List ℕ)) → (W → ℕ) → ℕ → Joined W → W → Result JoinReport JoinFault → Type 0
EndsJoin contents failures count old new result = CountsJoinWriter result (failures (joined_writer old)) (failures new)
    × ((start : Option (List ℕ)) (inputs : List TransmissionValue) → length inputs ≡ count → 0 < count
    → AllByRecursion IsTransmission inputs → HasJoined contents start (joined_inputs inputs) old
    → EndsWithAll contents count start inputs old new result)

-- a viewer saw the items of an input that was taken
abbrev pub SeesInput : {V : Type 0} → Limits → (V → List Item → Type 0) → Option (List ℕ) → Option (List ℕ) → V → V → Type 0
SeesInput limits has_seen before after old new =
    (v : TransmissionValue) × TakesFront limits before v after × SeesItems has_seen old new (value_items v)
