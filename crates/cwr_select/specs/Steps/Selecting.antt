-- A selection while it is written: what items do to it, and how it ends.
use Rattle.std.specs.Prelude.{◌≡◌, ◌≢◌, ◌⊎◌, ◌≤◌, ℕ, true, false, map, length, List, [], ◌∷◌, ◌++◌, Option, Some, IfSome, is_some, Result, Ok, Err}
use Rattle.std.specs.Io.KnownBytes.{Appends}
use Rattle.cwr_devices.specs.Format.Failures.{one_more_failure}
use Rattle.cwr_shape.specs.declared.limits.Limits.{Limits}
use Rattle.cwr_values.specs.declared.items.Item.{Item}
use Rattle.cwr_values.specs.declared.items.Item.TheVariants.{Transaction, Ended}
use Rattle.cwr_values.specs.Format.Values.{TransmissionValue, IsTransmission, FitsIn}
use Rattle.cwr_judge.specs.Format.Ends.{IsAccepted}
use Rattle.cwr_judge.specs.Format.Items.{records_in, value_items}
use Rattle.cwr_decode.specs.declared.readings.ReadFault.{ReadFault}
use Rattle.cwr_decode.specs.declared.readings.ReadFault.TheVariants as read_faults
use Rattle.cwr_decode.specs.Format.Runs.{TakesFront}
use Rattle.cwr_encode.specs.declared.encoders.Encoder.{Encoder}
use Rattle.cwr_encode.specs.Steps.Encoders.{Encodes, bytes_written, is_stopped, encoder_limits, target_of}
use Rattle.cwr_encode.specs.Format.Finishing.{HasFront}
use Rattle.cwr_encode.specs.Format.Written.{IsPart}
use Rattle.cwr_tools.specs.declared.verdicts.ToolFault.{ToolFault}
use Rattle.cwr_tools.specs.declared.verdicts.ToolFault.TheVariants.{Reader, Writer, Memory, Refused, Truncated, Limit, Output}
use Rattle.cwr_tools.specs.Steps.Reports.{HasHandedOut}
use Rattle.cwr_tools.specs.Steps.Verdicts.{StopsAfter}
use Rattle.cwr_parts.specs.Format.Joins.{WritesPart}
use Rattle.cwr_parts.specs.Format.Told.{ComeBefore}
use Rattle.cwr_parts.specs.Steps.SplitOutputs.{MayPut, PutsOn}
use Rattle.cwr_select.specs.declared.held.Held.{Held}
use Rattle.cwr_select.specs.declared.reports.SelectReport.{SelectReport}
use Rattle.cwr_select.specs.declared.selecting.Selecting.{Selecting}
use Rattle.cwr_lines.specs.Format.Records.{RecordValue}
use Rattle.cwr_select.specs.declared.changes.Changes.{Changes}
use Rattle.cwr_select.specs.declared.changes.WorkKind.{WorkKind}
use Rattle.cwr_select.specs.Format.Created.{created_at}
use Rattle.cwr_select.specs.Format.Selections.{Choice}
use Rattle.cwr_select.specs.Format.Selecting.{select_report}
use Rattle.cwr_select.specs.Format.Sent.{selected_as, sent_text, text_of}
use Rattle.cwr_select.specs.Steps.Headers.{created_item}
use Rattle.cwr_select.specs.Steps.Held.{HasRoom, held_after, none_held}
use Rattle.cwr_select.specs.Steps.Sent.{sent_after, sent_with}

-- ---- items

-- The writer failed in these items: the records up to some of them were accepted, and so many bytes are written in all.
pub record FailsIn {W : Type 0} (contents : W → Option (List ℕ)) (failures : W → ℕ) (added : List Item) (written : ℕ)
    (old new : Encoder W) : Type 0 where
  pub begun : List Item
  pub others : List Item
  pub split : added ≡ begun ++ others
  pub more : (start : Option (List ℕ)) (items : List Item) → Encodes contents start (records_in items) old
      → Encodes contents start (records_in (items ++ begun)) new
  pub counted : written ≡ bytes_written new
  pub failed : failures (target_of new) ≡ one_more_failure (failures (target_of old))
  pub limits : encoder_limits new ≡ encoder_limits old

-- the items are written, or the writer fails in them
abbrev pub WritesItems : {W A : Type 0} → (W → Option (List ℕ)) → (W → ℕ) → List Item → Result A ToolFault → Encoder W
    → Encoder W → Type 0
WritesItems contents failures added (Ok x) old new = PutsOn contents failures added old new
WritesItems contents failures added (Err (Writer written)) old new = FailsIn contents failures added written old new
WritesItems contents failures added (Err fault) old new = ⊥

-- what is held, if anything is, is a record that is none of a transaction, and not TRL
pub record IsControl (held : Option Item) : Type 0 where
  pub goes_on : held ≢ Some Ended
  pub outside : (t : List RecordValue) → held ≢ Some (Transaction t)

-- with what is written with the item some transmission begins, and there is room to count it
pub record MayTake {W : Type 0} (contents : W → Option (List ℕ)) (works : Option WorkKind) (choice : Choice) (item : Item)
    (s : Selecting W) : Type 0 where
  pub unfailed : is_stopped s.encoder ≡ false
  pub opening : IsControl s.held.opening
  pub head : IsControl s.held.head
  pub room : HasRoom s.held
  pub may : MayPut contents (sent_with works choice s.held item) s.encoder

-- the items are written, or the writer fails in them, or memory for a work that is changed was refused, and none is written
abbrev pub TakesItem : {W A : Type 0} → (W → Option (List ℕ)) → (W → ℕ) → Option WorkKind → List Item → Result A ToolFault
    → Encoder W → Encoder W → Type 0
TakesItem contents failures works added (Err Memory) old new = (is_some works ≡ true) × (new ≡ old)
TakesItem contents failures works added result old new = WritesItems contents failures added result old new

-- ---- a whole input

-- what is written of the items that were handed out, and what is held then
abbrev pub written_of : Changes → Choice → List Item → List Item
written_of changes choice given = sent_after changes.works choice (map (created_item changes.created) given)

abbrev pub held_of : Changes → Choice → List Item → Held
held_of changes choice given = held_after choice none_held (map (created_item changes.created) given)

-- all was read and is accepted, and what is selected of it was written but TRL
pub record SelectsAllItems {W : Type 0} (limits : Limits) (changes : Changes) (choice : Choice)
    (contents : W → Option (List ℕ)) (failures : W → ℕ)
    (before after : Option (List ℕ)) (old new : Selecting W) : Type 0 where
  pub value : TransmissionValue
  pub taken : TakesFront limits before value after
  pub held : new.held ≡ held_after choice none_held (value_items (created_at changes.created value))
  pub on : PutsOn contents failures (sent_after changes.works choice (value_items (created_at changes.created value))) old.encoder
      new.encoder

-- the reading stopped with that fault after these items, of which what is selected was written
pub record StopsReading {W : Type 0} (limits : Limits) (changes : Changes) (choice : Choice) (fault : ReadFault)
    (contents : W → Option (List ℕ))
    (failures : W → ℕ) (before after : Option (List ℕ)) (old new : Selecting W) : Type 0 where
  pub given : List Item
  pub stops : StopsAfter limits fault before after given
  pub on : PutsOn contents failures (written_of changes choice given) old.encoder new.encoder

-- memory for a work that is changed was refused, and what is selected of the items before it was written
pub record StopsChanging {W : Type 0} (limits : Limits) (changes : Changes) (choice : Choice) (contents : W → Option (List ℕ))
    (failures : W → ℕ) (before after : Option (List ℕ)) (old new : Selecting W) : Type 0 where
  pub given : List Item
  pub item : Item
  pub some : is_some changes.works ≡ true
  pub handed_out : HasHandedOut limits before after (given ++ item ∷ [])
  pub on : PutsOn contents failures (written_of changes choice given) old.encoder new.encoder

-- the writer failed in what is written of these items
pub record StopsWriting {W : Type 0} (limits : Limits) (changes : Changes) (choice : Choice) (written : ℕ)
    (contents : W → Option (List ℕ))
    (failures : W → ℕ) (before after : Option (List ℕ)) (old new : Selecting W) : Type 0 where
  pub given : List Item
  pub handed_out : HasHandedOut limits before after given
  pub fails : FailsIn contents failures (written_of changes choice given) written old.encoder new.encoder

abbrev pub SelectsItems : {W : Type 0} → Limits → Changes → Choice → (W → Option (List ℕ)) → (W → ℕ) → Option (List ℕ)
    → Option (List ℕ) → Result (Unit {0}) ToolFault → Selecting W → Selecting W → Type 0
SelectsItems limits changes choice contents failures before after (Ok u) old new =
    SelectsAllItems limits changes choice contents failures before after old new
SelectsItems limits changes choice contents failures before after (Err Reader) old new =
    StopsReading limits changes choice read_faults.Reader contents failures before after old new
SelectsItems limits changes choice contents failures before after (Err Memory) old new =
    StopsReading limits changes choice read_faults.Memory contents failures before after old new
    ⊎ StopsChanging limits changes choice contents failures before after old new
SelectsItems limits changes choice contents failures before after (Err (Refused refusal)) old new =
    StopsReading limits changes choice (read_faults.Refused refusal) contents failures before after old new
SelectsItems limits changes choice contents failures before after (Err (Truncated records)) old new =
    StopsReading limits changes choice (read_faults.Truncated records) contents failures before after old new
SelectsItems limits changes choice contents failures before after (Err (Writer written)) old new =
    StopsWriting limits changes choice written contents failures before after old new
SelectsItems limits changes choice contents failures before after (Err fault) old new = ⊥

-- ---- the end

-- what is selected of a transmission was written but TRL, its works as they are sent
pub record HasSelected {W : Type 0} (contents : W → Option (List ℕ)) (start : Option (List ℕ)) (works : Option WorkKind)
    (choice : Choice) (v : TransmissionValue) (s : Selecting W) : Type 0 where
  pub whole : IsTransmission v
  pub within : FitsIn (encoder_limits s.encoder) v
  pub held : s.held ≡ held_after choice none_held (value_items v)
  pub encodes : Encodes contents start (records_in (sent_after works choice (value_items v))) s.encoder

-- so it is of some
pub record MayFinish {W : Type 0} (contents : W → Option (List ℕ)) (s : Selecting W) : Type 0 where
  pub start : Option (List ℕ)
  pub works : Option WorkKind
  pub choice : Choice
  pub value : TransmissionValue
  pub all : HasSelected contents start works choice value s

-- the report is right, and the canonical text of what is sent is written; where the writer fails, so many of its first bytes are
abbrev pub EndsSelection : {W : Type 0} → (W → Option (List ℕ)) → Option (List ℕ) → Option WorkKind → Choice → TransmissionValue
    → W → Result SelectReport ToolFault → Type 0
EndsSelection contents start works choice v new (Ok report) =
    (report ≡ select_report choice v) × Appends start (contents new) (text_of (selected_as works choice v))
EndsSelection contents start works choice v new (Err (Writer written)) =
    HasFront contents start new (text_of (selected_as works choice v)) written
EndsSelection contents start works choice v new (Err fault) = ⊥

abbrev pub Finishes : {W : Type 0} → (W → Option (List ℕ)) → Selecting W → W → Result SelectReport ToolFault → Type 0
Finishes contents old new result =
    (start : Option (List ℕ)) (works : Option WorkKind) (choice : Choice) (v : TransmissionValue)
    → HasSelected contents start works choice v old → EndsSelection contents start works choice v new result

-- ---- what is written where a run stops

-- the items that were handed out before a fault, of which what is selected was written
pub record SelectsUpTo {W : Type 0} (limits : Limits) (changes : Changes) (choice : Choice) (fault : ToolFault)
    (contents : W → Option (List ℕ))
    (before after : Option (List ℕ)) (old new : W) : Type 0 where
  pub given : List Item
  pub before_it : ComeBefore limits fault before after given
  pub written : WritesPart limits contents (records_in (written_of changes choice given)) old new

-- an item was handed out, and what is selected of the items before it was written
pub record SelectsUpToItem {W : Type 0} (limits : Limits) (changes : Changes) (choice : Choice) (contents : W → Option (List ℕ))
    (before after : Option (List ℕ)) (old new : W) : Type 0 where
  pub given : List Item
  pub item : Item
  pub before_it : ComeBefore limits Output before after (given ++ item ∷ [])
  pub written : WritesPart limits contents (records_in (written_of changes choice given)) old new

-- the canonical text of the records of some of the first items that are written of those that were handed out before a fault
pub record IsSelectedFront (limits : Limits) (changes : Changes) (choice : Choice) (fault : ToolFault)
    (before after : Option (List ℕ))
    (text : List ℕ) : Type 0 where
  pub given : List Item
  pub before_it : ComeBefore limits fault before after given
  pub begun : List Item
  pub others : List Item
  pub split : written_of changes choice given ≡ begun ++ others
  pub part : IsPart limits (records_in begun) text

-- or that of all that is selected
pub record IsSelectedWhole (limits : Limits) (changes : Changes) (choice : Choice) (before after : Option (List ℕ))
    (text : List ℕ) : Type 0 where
  pub value : TransmissionValue
  pub taken : TakesFront limits before value after
  pub text_is : text ≡ sent_text changes choice value

-- Where a text isn't accepted, or a device or memory failed, what is selected of its items before that is written, and no TRL. Memory fails
-- in reading, and for an item that is changed. Where the writer failed, so many of the first bytes are as its fault tells. No limit is a
-- fault, and none is of an output.
abbrev pub LeavesSelected : {W : Type 0} → Limits → Changes → Choice → Option (List ℕ) → Option (List ℕ)
    → (W → Option (List ℕ)) → W → W
    → ToolFault → Type 0
LeavesSelected limits changes choice before after contents old new (Writer written) = (text : List ℕ)
    × (IsSelectedFront limits changes choice (Writer written) before after text
    ⊎ IsSelectedWhole limits changes choice before after text)
    × HasFront contents (contents old) new text written
LeavesSelected limits changes choice before after contents old new Memory =
    SelectsUpTo limits changes choice Memory contents before after old new
    ⊎ ((is_some changes.works ≡ true) × SelectsUpToItem limits changes choice contents before after old new)
LeavesSelected limits changes choice before after contents old new (Limit limit) = ⊥
LeavesSelected limits changes choice before after contents old new Output = ⊥
LeavesSelected limits changes choice before after contents old new fault =
    SelectsUpTo limits changes choice fault contents before after old new

-- ---- how many items there are

-- where the text is accepted, its transmission has at most so many
abbrev pub HasFewItems : Limits → Option (List ℕ) → Type 0
HasFewItems limits before =
    IfSome before (λ text. (v : TransmissionValue) (n : ℕ) → IsAccepted limits text v n → length (value_items v) ≤ 199999998)
