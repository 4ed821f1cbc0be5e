-- What taking a line does to an encoder.
use Rattle.std.specs.Prelude.{◌≡◌, ◌≢◌, ◌⊎◌, ℕ, false, not, List, [], ◌∷◌, ◌++◌, length, Option, None, Some, IfSome, Result, Ok}
use Rattle.std.specs.Prelude.{Err}
use Rattle.std.specs.List.{AllZip, filter}
use Rattle.json.specs.Json.{Json}
use Rattle.cwr_devices.specs.Format.Failures.{one_more_failure}
use Rattle.cwr_values.specs.declared.items.Item.{Item}
use Rattle.cwr_values.specs.declared.items.Item.TheVariants.{Opened, GroupOpened, Transaction, GroupClosed, Ended}
use Rattle.cwr_encode.specs.declared.encoders.Encoder.{Encoder}
use Rattle.cwr_encode.specs.declared.encoders.EncodeFault.{EncodeFault}
use Rattle.cwr_encode.specs.declared.encoders.EncodeFault.TheVariants as encode_faults
use Rattle.cwr_encode.specs.Format.Encoders.{JudgesFoot, JudgesGroup, JudgesOpening, JudgesTransaction}
use Rattle.cwr_encode.specs.Steps.Encoders.{Encodes, RepresentsMore, bytes_written, encoder_limits, is_stopped, target_of}
use Rattle.cwr_encode.specs.Steps.Finishing.{FinishesWriting}
use Rattle.cwr_shape.specs.declared.symbols.Symbol.{Symbol}
use Rattle.cwr_shape.specs.Format.Ranges.{LimitValues}
use Rattle.cwr_values.specs.Format.Values.{TransmissionValue, IsTransmission, FitsIn}
use Rattle.cwr_json.specs.declared.encodings.Encoding.{Encoding}
use Rattle.cwr_write.specs.Format.Faults.{IsAmong, IsOfData, IsOfLine, TellsKey, JudgesItem, reached_after}
use Rattle.cwr_json.specs.Format.Forms.{records_key}
use Rattle.cwr_write.specs.declared.refusals.LineFault.{LineFault}
use Rattle.cwr_write.specs.declared.refusals.Why.{Why}
use Rattle.cwr_write.specs.declared.refusals.Why.TheVariants as whys
use Rattle.cwr_write.specs.declared.items.ItemFault.{ItemFault}
use Rattle.cwr_write.specs.declared.items.ItemFault.TheVariants as item_faults
use Rattle.cwr_values.specs.Format.Rows.{trailer}
use Rattle.cwr_judge.specs.Format.Items.{AreFirstItems, records_in, value_items}
use Rattle.cwr_write.specs.Format.Endings.{AreShort, EndsEarly, EndsWell, StopsAtLine}
use Rattle.cwr_write.specs.Format.Imports.{AreLines, SaysItem, SaysItems, given_in, given_records, is_blank_line}
use Rattle.cwr_write.specs.Format.Lacks.{lack_of}
use Rattle.cwr_write.specs.declared.writing.Reached.{Reached}
use Rattle.cwr_write.specs.declared.writing.Reached.TheVariants as reached_to
use Rattle.cwr_write.specs.declared.input_lines.ReadFault.{ReadFault}
use Rattle.cwr_write.specs.declared.input_lines.ReadFault.TheVariants as read_faults
use Rattle.cwr_write.specs.declared.writing.Written.{Written}
use Rattle.cwr_write.specs.declared.writing.WriteFault.{WriteFault}
use Rattle.cwr_write.specs.declared.writing.WriteFault.TheVariants as write_faults

-- the answer isn't that the writer failed
abbrev pub IsNoWriter : {A : Type 0} → Result A EncodeFault → Type 0
IsNoWriter (Err (encode_faults.Writer written)) = ⊥
IsNoWriter answer = Unit {0}

-- the fault is one of the line's data, or memory was refused
abbrev pub IsOwn : ItemFault → Type 0
IsOwn (item_faults.Writer written) = ⊥
IsOwn (item_faults.Line f) = IsOfData f.why
IsOwn item_faults.Memory = Unit {0}

-- it is so of the line's fault, if it is one
abbrev pub OnLine : ItemFault → (LineFault → Type 0) → Type 0
OnLine (item_faults.Line f) is = is f
OnLine fault is = Unit {0}

-- a list has no values, or the fault is of one of them
abbrev pub IsOfList : Encoding → List Json → LineFault → Type 0
IsOfList enc js f =
    ((f.record ≡ 0) × (f.kind ≡ None) × TellsKey f.key records_key × (f.why ≡ whys.Empty) × (js ≡ [])) ⊎ IsAmong enc js f

-- the fault is one of the line
abbrev pub IsLine : ItemFault → Type 0
IsLine (item_faults.Line f) = Unit {0}
IsLine fault = ⊥

-- the reason that is told of an encoder's fault with the item
abbrev pub IsWhyOf : Item → EncodeFault → Why → Type 0
IsWhyOf item encode_faults.OutOfOrder why = why ≡ whys.OutOfOrder
IsWhyOf item encode_faults.WrongKind why = why ≡ whys.WrongKind
IsWhyOf item encode_faults.Incomplete why = why ≡ whys.Incomplete (lack_of item)
IsWhyOf item (encode_faults.Limit limit) why = why ≡ whys.Limit limit
IsWhyOf item (encode_faults.Writer written) why = ⊥

-- what is told of an encoder's fault with the item
abbrev pub IsFaultOf : Item → EncodeFault → ItemFault → Type 0
IsFaultOf item (encode_faults.Writer written) told = told ≡ item_faults.Writer written
IsFaultOf item fault (item_faults.Line f) = IsOfLine f × IsWhyOf item fault f.why
IsFaultOf item fault told = ⊥

-- how far the lines have come with the item: none comes after TRL's
abbrev pub Goes : Reached → Item → Reached → Type 0
Goes before Ended after = (before ≢ reached_to.End) × (after ≡ reached_to.End)
Goes before item after = (before ≢ reached_to.End) × (after ≢ reached_to.End)

-- just TRL is left for the encoder to make, where its line was taken
pub record HaveGiven (items : List Item) (reached : Reached) : Type 0 where
  pub ended : reached ≡ reached_to.End → records_in items ≡ given_in items ++ trailer ∷ []
  pub begun : reached ≢ reached_to.End → records_in items ≡ given_in items

-- The encoder was given the records of these items, with which some transmission within its limits begins.
pub record Stands {W : Type 0} (contents : W → Option (List ℕ)) (start : Option (List ℕ)) (items : List Item) (reached : Reached)
    (e : Encoder W) : Type 0 where
  pub encodes : Encodes contents start (given_in items) e
  pub first : AreFirstItems (encoder_limits e) items
  pub given : HaveGiven items reached
  pub reached_is : reached ≡ reached_after reached_to.Begun items

-- how the encoder's call for an item is judged; TRL has none
abbrev pub JudgesGiven : LimitValues → Item → List Symbol → Result (Unit {0}) EncodeFault → Type 0
JudgesGiven limits (Opened r) xs answer = JudgesOpening limits r xs answer
JudgesGiven limits (GroupOpened r) xs answer = JudgesGroup limits r xs answer
JudgesGiven limits (Transaction t) xs answer = JudgesTransaction limits t xs answer
JudgesGiven limits (GroupClosed r) xs answer = JudgesFoot limits r xs answer
JudgesGiven limits Ended xs answer = Unit {0}

-- The answer for an item after others: it is taken where some transmission within the limits begins so, and else refused, for
-- that reason. The writer may fail with one that is taken, and not with TRL.
abbrev pub JudgesNext : LimitValues → List Item → Item → Result (Unit {0}) EncodeFault → Type 0
JudgesNext limits items item (Ok x) = AreFirstItems limits (items ++ item ∷ [])
JudgesNext limits items item (Err (encode_faults.Writer written)) =
    (item ≢ Ended) × AreFirstItems limits (items ++ item ∷ [])
JudgesNext limits items item (Err fault) =
    (¬ AreFirstItems limits (items ++ item ∷ [])) × JudgesItem limits items item (Err fault)

-- what the encoder stood for, it stands for with the item after that
abbrev pub StandsWith : {W : Type 0} → (W → Option (List ℕ)) → Item → Reached → Reached → Encoder W → Encoder W → Type 0
StandsWith contents item before after old new =
    (start : Option (List ℕ)) (items : List Item) → Stands contents start items before old
    → Stands contents start (items ++ item ∷ []) after new

-- with no item of which this is so after what the encoder stands for some transmission begins
abbrev pub NoneBegins : {W : Type 0} → (W → Option (List ℕ)) → (Item → Type 0) → Reached → Encoder W → Type 0
NoneBegins contents is before e =
    (start : Option (List ℕ)) (items : List Item) → Stands contents start items before e → (i : Item) → is i
    → ¬ AreFirstItems (encoder_limits e) (items ++ i ∷ [])

-- the item isn't TRL, and with it after what the encoder stands for some transmission begins
abbrev pub IsTakenNext : {W : Type 0} → (W → Option (List ℕ)) → Item → Reached → Encoder W → Type 0
IsTakenNext contents item before e =
    (start : Option (List ℕ)) (items : List Item) → Stands contents start items before e
    → (item ≢ Ended) × AreFirstItems (encoder_limits e) (items ++ item ∷ [])

-- An item more of which this is so is accepted. Or nothing is changed, since none such continues a transmission, for such a reason, or
-- for want of memory. Or the writer failed with an item more that is accepted, once so many bytes were written.
abbrev pub TakesLine : {W : Type 0} → (Item → Type 0) → (LimitValues → List Item → LineFault → Type 0) → Reached
    → (W → Option (List ℕ)) → (W → ℕ) → Result Reached ItemFault → Encoder W → Encoder W → Type 0
TakesLine is reason before contents failures (Ok after) old new =
    (item : Item) × is item × Goes before item after × RepresentsMore contents (given_records item) old new
    × (is_stopped new ≡ false) × (failures (target_of new) ≡ failures (target_of old))
    × StandsWith contents item before after old new
TakesLine is reason before contents failures (Err (item_faults.Writer written)) old new =
    (failures (target_of new) ≡ one_more_failure (failures (target_of old)))
    × ((item : Item) × is item × RepresentsMore contents (given_records item) old new × (written ≡ bytes_written new)
    × IsTakenNext contents item before old)
TakesLine is reason before contents failures (Err (item_faults.Line fault)) old new =
    (new ≡ old) × NoneBegins contents is before old
    × ((start : Option (List ℕ)) (items : List Item) → Stands contents start items before old
    → reason (encoder_limits old) items fault)
TakesLine is reason before contents failures (Err item_faults.Memory) old new = new ≡ old

-- Lines of a text were taken, so many, all but these bytes, and they are data of the items. None has more than so many bytes.
pub record SaidSoFar (enc : Encoding) (most n : ℕ) (text : List ℕ) (after : Option (List ℕ)) (items : List Item) : Type 0 where
  pub lines : List (List ℕ)
  pub rest : List ℕ
  pub after_is : after ≡ Some rest
  pub with_rest : (tail : List (List ℕ)) → AreLines tail rest → AreLines (lines ++ tail) text
  pub each : AllZip (SaysItem enc) (filter (λ line. not (is_blank_line line)) lines) items
  pub number : n ≡ length lines
  pub short : AreShort most lines

-- the items are all of a transmission within the limits, and the encoder was given their records
pub record StandsWhole {W : Type 0} (contents : W → Option (List ℕ)) (items : List Item) (e : Encoder W) : Type 0 where
  pub start : Option (List ℕ)
  pub encodes : Encodes contents start (given_in items) e
  pub value : TransmissionValue
  pub whole : IsTransmission value
  pub within : FitsIn (encoder_limits e) value
  pub items_are : value_items value ≡ items

-- what taking lines does: the items of all are accepted, or the writer failed in the last
abbrev pub TakesLines : {W : Type 0} → Encoding → Option (List ℕ) → (W → Option (List ℕ)) → (W → ℕ) → Result ℕ WriteFault
    → Encoder W → Encoder W → Type 0
TakesLines enc left contents failures (Ok lines) old new =
    (items : List Item) × RepresentsMore contents (given_in items) old new × (is_stopped new ≡ false)
    × (failures (target_of new) ≡ failures (target_of old))
    × (records_in items ≡ given_in items ++ trailer ∷ []) × IfSome left (λ text. SaysItems enc text items)
    × StandsWhole contents items new
TakesLines enc left contents failures (Err (write_faults.Writer written)) old new =
    failures (target_of new) ≡ one_more_failure (failures (target_of old))
TakesLines enc left contents failures (Err fault) old new = failures (target_of new) ≡ failures (target_of old)

-- how a run over the text ends, unless a device or memory failed
abbrev pub EndsLines : Encoding → LimitValues → ℕ → List ℕ → Result ℕ WriteFault → Type 0
EndsLines enc limits most text (Ok n) = EndsWell enc limits most text n
EndsLines enc limits most text (Err (write_faults.Refused r)) = StopsAtLine enc limits most text r.line r.fault
EndsLines enc limits most text (Err (write_faults.Early n)) = EndsEarly enc limits most text n
EndsLines enc limits most text (Err fault) = Unit {0}

-- what is told where an encoder's end is refused after so many lines
abbrev pub IsFinishFault : ℕ → EncodeFault → WriteFault → Type 0
IsFinishFault lines (encode_faults.Writer written) told = told ≡ write_faults.Writer written
IsFinishFault lines fault told = told ≡ write_faults.Early lines

-- so many lines are told where the transmission ends, and only the writer may fail
abbrev pub FinishesLines : ℕ → Result Written WriteFault → Type 0
FinishesLines lines (Ok w) = w.lines ≡ lines
FinishesLines lines (Err (write_faults.Writer written)) = Unit {0}
FinishesLines lines (Err fault) = ⊥

-- where the writer failed as the transmission ended, the first bytes of its canonical text are written, so many
abbrev pub IsCutShort : {W : Type 0} → (W → Option (List ℕ)) → (W → ℕ) → Encoder W → W → Result Written WriteFault → Type 0
IsCutShort contents failures e writer (Err (write_faults.Writer written)) =
    FinishesWriting contents failures e writer (Err (encode_faults.Writer written))
IsCutShort contents failures e writer answer = Unit {0}

-- the fault isn't that the writer failed
abbrev pub IsOther : WriteFault → Type 0
IsOther (write_faults.Writer written) = ⊥
IsOther fault = Unit {0}

-- nor that the reader did
abbrev pub IsOwnRun : WriteFault → Type 0
IsOwnRun (write_faults.Writer written) = ⊥
IsOwnRun write_faults.Reader = ⊥
IsOwnRun fault = Unit {0}

-- lines end well only with TRL's, and else early
abbrev pub EndsWith : ℕ → Reached → Result ℕ WriteFault → Type 0
EndsWith n reached (Ok lines) = (reached ≡ reached_to.End) × (lines ≡ n)
EndsWith n reached (Err fault) = (reached ≢ reached_to.End) × (fault ≡ write_faults.Early n)

-- the fault is a refusal of that line for that fault of it
abbrev pub IsRefusedAt : ℕ → LineFault → WriteFault → Type 0
IsRefusedAt n f (write_faults.Refused r) = (r.line ≡ n) × (r.fault ≡ f)
IsRefusedAt n f fault = ⊥

-- the fault of a run that stops at that line with that of an item
abbrev pub IsRunFaultOf : ℕ → ItemFault → WriteFault → Type 0
IsRunFaultOf n (item_faults.Writer written) fault = fault ≡ write_faults.Writer written
IsRunFaultOf n item_faults.Memory fault = fault ≡ write_faults.Memory
IsRunFaultOf n (item_faults.Line f) fault = IsRefusedAt n f fault

-- a reader's failures count one more where its fault is answered, and else they stay
abbrev pub CountsReading : {A : Type 0} → Result A ReadFault → ℕ → ℕ → Type 0
CountsReading (Err read_faults.Reader) old new = new ≡ one_more_failure old
CountsReading result old new = new ≡ old

-- the answer isn't that the reader failed
abbrev pub IsUnfailed : {A : Type 0} → Result A ReadFault → Type 0
IsUnfailed (Err read_faults.Reader) = ⊥
IsUnfailed result = Unit {0}

-- what is told where that line can't be read
abbrev pub IsUnreadFault : ℕ → ReadFault → WriteFault → Type 0
IsUnreadFault n read_faults.Reader told = told ≡ write_faults.Reader
IsUnreadFault n read_faults.Memory told = told ≡ write_faults.Memory
IsUnreadFault n read_faults.TooLong told = (f : LineFault) × (f.why ≡ whys.TooLong) × IsOfLine f × IsRefusedAt n f told

-- the answer isn't that the reader failed
abbrev pub NoReader : {A : Type 0} → Result A WriteFault → Type 0
NoReader (Err write_faults.Reader) = ⊥
NoReader answer = Unit {0}
