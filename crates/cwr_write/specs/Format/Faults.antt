-- What the reason of a refusal says of its line.
use Rattle.std.specs.Prelude.{◌≡◌, ◌≢◌, ◌⊎◌, ℕ, ◌+◌, ◌<◌, min, true, false, nat_lt, List, [], ◌∷◌, ◌++◌, length, map, take}
use Rattle.std.specs.Prelude.{count_by, Option, Some, None, IsSome, IsSomeAnd, Result, Err}
use Rattle.std.specs.List.{list_all, list_any}
use Rattle.std.specs.Str.{IsUtf8, bytes_eq}
use Rattle.json.specs.Find.{as_array, as_str}
use Rattle.json.specs.Json.{Json, string, array, object, no_items, Members, no_members, document}
use Rattle.json.specs.Value.{items_of}
use Rattle.json.specs.Strict.{keys}
use Rattle.cwr_fields.specs.Format.Cells.{HasFault}
use Rattle.cwr_fields.specs.declared.kinds.Kind.{Kind}
use Rattle.cwr_fields.specs.declared.kinds.Kind.TheVariants.{Hdr, Grh, Grt}
use Rattle.cwr_fields.specs.Format.Kinds.{kind_of, letters}
use Rattle.cwr_fields.specs.Format.Layouts.{FieldLayout, field_at, layout}
use Rattle.cwr_lines.specs.Format.Records.{RecordValue}
use Rattle.cwr_values.specs.declared.items.Item.{Item}
use Rattle.cwr_values.specs.declared.items.Item.TheVariants.{Opened, GroupOpened, Transaction, GroupClosed, Ended}
use Rattle.cwr_shape.specs.Format.Ranges.{LimitValues}
use Rattle.cwr_values.specs.Format.Begun.{IsBegun, BeginsWithOneMore}
use Rattle.cwr_values.specs.Format.Values.{symbol_of}
use Rattle.cwr_judge.specs.Format.Items.{item_records, records_in}
use Rattle.cwr_encode.specs.declared.encoders.EncodeFault.{EncodeFault}
use Rattle.cwr_encode.specs.declared.encoders.EncodeFault.TheVariants as faults
use Rattle.cwr_encode.specs.Format.Encoders.{JudgesFoot, JudgesGroup, JudgesOpening, JudgesTransaction}
use Rattle.cwr_json.specs.declared.encodings.Encoding.{Encoding}
use Rattle.cwr_json.specs.Format.Encodings.{StandFor}
use Rattle.cwr_json.specs.Format.Forms.{AreRecordsData, IsCellFrom, IsItemData, IsRecordData, first_of, key_of, kind_key}
use Rattle.cwr_json.specs.Format.Forms.{records_key, told}
use Rattle.cwr_write.specs.Format.Imports.{SaysItem}
use Rattle.cwr_write.specs.Format.Lacks.{lack_of}
use Rattle.cwr_write.specs.declared.writing.Reached.{Reached}
use Rattle.cwr_write.specs.declared.writing.Reached.TheVariants as reached_to
use Rattle.cwr_write.specs.declared.refusals.Why.{Why}
use Rattle.cwr_write.specs.Format.AloneKinds.{IsAlone}
use Rattle.cwr_write.specs.declared.refusals.Key.{Key}
use Rattle.cwr_write.specs.declared.refusals.LineFault.{LineFault}
use Rattle.cwr_write.specs.declared.refusals.Key.TheVariants as said_of
use Rattle.cwr_write.specs.declared.refusals.Why.TheVariants.{NotJson, NotAnObject, UnknownKey, Repeated, Missing, NotAList}
use Rattle.cwr_write.specs.declared.refusals.Why.TheVariants.{Empty, NotText, UnknownKind, Computed, NotAByte, TooWide, Cell}
use Rattle.cwr_write.specs.declared.refusals.Why.TheVariants.{Misplaced, Alone, OutOfOrder, WrongKind, Incomplete, Limit, TooLong}

-- the item is one of a transmission: of the right kind, and a transaction begins one of this profile
abbrev pub IsItem : Item → Type 0
IsItem (Opened r) = r.kind ≡ Hdr
IsItem (GroupOpened r) = r.kind ≡ Grh
IsItem (Transaction t) = IsBegun t × (0 < length t)
IsItem (GroupClosed r) = r.kind ≡ Grt
IsItem Ended = Unit {0}

-- no item of a transmission has records of which this is so
abbrev pub NoItem : (List RecordValue → Type 0) → Type 0
NoItem is = (i : Item) → IsItem i → ¬ is (item_records i)

-- how far items have come: what came last
abbrev pub reached_with : Item → Reached
reached_with (Opened r) = reached_to.Opening
reached_with (GroupOpened r) = reached_to.Begun
reached_with (Transaction t) = reached_to.Begun
reached_with (GroupClosed r) = reached_to.GroupFoot
reached_with Ended = reached_to.End

abbrev pub reached_after : Reached → List Item → Reached
reached_after reached [] = reached
reached_after reached (i ∷ items) = reached_after (reached_with i) items

-- TRL comes after a group: not after HDR, where the transmission is incomplete, and nowhere else
abbrev pub JudgesTrailer : Reached → Result (Unit {0}) EncodeFault → Type 0
JudgesTrailer at (Err faults.OutOfOrder) = (at ≢ reached_to.Opening) × (at ≢ reached_to.GroupFoot)
JudgesTrailer at (Err faults.Incomplete) = at ≡ reached_to.Opening
JudgesTrailer at answer = ⊥

-- why an item can't come after others, as an encoder of them says it
abbrev pub JudgesItem : LimitValues → List Item → Item → Result (Unit {0}) EncodeFault → Type 0
JudgesItem limits items (Opened r) answer = JudgesOpening limits r (map symbol_of (records_in items)) answer
JudgesItem limits items (GroupOpened r) answer = JudgesGroup limits r (map symbol_of (records_in items)) answer
JudgesItem limits items (Transaction t) answer = JudgesTransaction limits t (map symbol_of (records_in items)) answer
JudgesItem limits items (GroupClosed r) answer = JudgesFoot limits r (map symbol_of (records_in items)) answer
JudgesItem limits items Ended answer = JudgesTrailer (reached_after reached_to.Begun items) answer

-- the reason is the place of the item after the others, and where it is incomplete what it lacks is told
abbrev pub IsPlaceReason : LimitValues → List Item → Item → Why → Type 0
IsPlaceReason limits items i OutOfOrder = JudgesItem limits items i (Err faults.OutOfOrder)
IsPlaceReason limits items i WrongKind = JudgesItem limits items i (Err faults.WrongKind)
IsPlaceReason limits items i (Incomplete lack) = JudgesItem limits items i (Err faults.Incomplete) × (lack ≡ lack_of i)
IsPlaceReason limits items i (Limit limit) = JudgesItem limits items i (Err (faults.Limit limit))
IsPlaceReason limits items i why = ⊥

-- the reason is the data of a line
abbrev pub IsOfData : Why → Type 0
IsOfData NotJson = ⊥
IsOfData OutOfOrder = ⊥
IsOfData WrongKind = ⊥
IsOfData (Incomplete lack) = ⊥
IsOfData (Limit limit) = ⊥
IsOfData TooLong = ⊥
IsOfData why = Unit {0}

-- the line is data of an item, and the reason is its place after the others
abbrev pub SaysMisplaced : Encoding → LimitValues → List Item → List ℕ → Why → Type 0
SaysMisplaced enc limits items line why = (i : Item) × SaysItem enc line i × IsPlaceReason limits items i why

-- ---- data

-- each is a byte
abbrev pub AreBytes : List ℕ → Type 0
AreBytes text = list_all (λ b. nat_lt b 256) text ≡ true

-- of a value that is a text
abbrev pub OfText : Option Json → (List ℕ → Type 0) → Type 0
OfText value is = IsSomeAnd value (λ j. IsSomeAnd (as_str j) is)

-- the value isn't a text
abbrev pub IsNoText : Option Json → Type 0
IsNoText value = IsSomeAnd value (λ j. as_str j ≡ None)

-- why a value that names a record's kind names none
abbrev pub IsKindReason : Option Json → Why → Type 0
IsKindReason value Missing = value ≡ None
IsKindReason value NotText = IsNoText value
IsKindReason value UnknownKind = OfText value (λ s. kind_of s ≡ None)
IsKindReason value why = ⊥

-- why a value isn't one of the field's
abbrev pub IsValueReason : Encoding → FieldLayout → Option Json → Why → Type 0
IsValueReason enc f value Computed = (f.derived ≡ true) × IsSome value
IsValueReason enc f value NotText = (f.derived ≡ false) × IsNoText value
IsValueReason enc f value NotAByte =
    (f.derived ≡ false) × OfText value (λ s. (text : List ℕ) → AreBytes text → ¬ StandFor enc s text)
IsValueReason enc f value TooWide =
    (f.derived ≡ false) × OfText value (λ s. (text : List ℕ) × AreBytes text × StandFor enc s text × (f.width < length text))
IsValueReason enc f value (Cell fault) =
    (f.derived ≡ false) × ((cell : List ℕ) × IsCellFrom enc f value cell × HasFault f.ty cell fault)
IsValueReason enc f value why = ⊥

-- the key is told by its first bytes
abbrev pub TellsKey : Key → List ℕ → Type 0
TellsKey (said_of.Text front) k = front.items ≡ take 40 k
TellsKey key k = ⊥

-- why members are data of no record of the kind: a key that no field has, or one that comes twice, or the value of a field
abbrev pub IsMemberReason : Encoding → Kind → Members → Key → Why → Type 0
IsMemberReason enc this_kind ms key UnknownKey =
    (k : List ℕ) × TellsKey key k × (list_any (bytes_eq k) (keys ms) ≡ true)
    × (list_any (λ f. bytes_eq k (key_of f.name)) (layout this_kind) ≡ false)
IsMemberReason enc this_kind ms (said_of.Field j) Repeated =
    IsSomeAnd (field_at this_kind j) (λ f. 1 < count_by (bytes_eq (key_of f.name)) (keys ms))
IsMemberReason enc this_kind ms (said_of.Field j) why =
    IsSomeAnd (field_at this_kind j) (λ f. IsValueReason enc f (first_of (key_of f.name) ms) why)
IsMemberReason enc this_kind ms key why = ⊥

-- the members of a value that is an object; of none where it isn't
abbrev pub members_in : Json → Option Members
members_in (object ms) = Some ms
members_in j = None

-- why a value is data of no record, once its kind is known or before
abbrev pub IsRecordReason : Encoding → Json → Option Kind → Key → Why → Type 0
IsRecordReason enc j kind key NotAnObject = (kind ≡ None) × (key ≡ said_of.None) × (members_in j ≡ None)
IsRecordReason enc j None key why =
    (key ≡ said_of.Field 1) × IsSomeAnd (members_in j) (λ ms. IsKindReason (first_of kind_key (told ms)) why)
IsRecordReason enc j (Some kind) key why =
    IsSomeAnd (members_in j)
    (λ ms. (first_of kind_key (told ms) ≡ Some (string (letters kind))) × IsMemberReason enc kind (told ms) key why)

-- why the told members of a line are no list of records
abbrev pub IsRecordsReason : Members → Why → Type 0
IsRecordsReason ms Missing = ms ≡ no_members
IsRecordsReason ms Repeated = 1 < count_by (bytes_eq records_key) (keys ms)
IsRecordsReason ms NotAList = IsSomeAnd (first_of records_key ms) (λ j. as_array j ≡ None)
IsRecordsReason ms Empty = first_of records_key ms ≡ Some (array no_items)
IsRecordsReason ms why = ⊥

-- the key is told too: another than that of the records, or that
abbrev pub IsListReason : Members → Key → Why → Type 0
IsListReason ms key UnknownKey =
    (k : List ℕ) × TellsKey key k × (list_any (bytes_eq k) (keys ms) ≡ true) × (bytes_eq k records_key ≡ false)
IsListReason ms key why = TellsKey key records_key × IsRecordsReason ms why

-- the fault is that of the whole line
abbrev pub IsOfLine : LineFault → Type 0
IsOfLine f = (f.record ≡ 0) × (f.kind ≡ None) × (f.key ≡ said_of.None)

-- the first record is an item alone, of that kind
abbrev pub BeginsAlone : List RecordValue → Option Kind → Type 0
BeginsAlone [] told_kind = ⊥
BeginsAlone (r ∷ rs) told_kind = IsAlone r.kind × (told_kind ≡ Some r.kind)

-- why a value after those of the records isn't one of their item's: it is a record that can't come after them, or data of none
abbrev pub IsNextReason : Encoding → List RecordValue → Json → LineFault → Why → Type 0
IsNextReason enc records j f Misplaced =
    (r : RecordValue) × IsRecordData enc j r × (f.kind ≡ Some r.kind) × (f.key ≡ said_of.None) × ¬ BeginsWithOneMore records r
IsNextReason enc records j f Alone =
    (r : RecordValue) × IsRecordData enc j r × BeginsAlone records f.kind × (f.key ≡ said_of.None)
IsNextReason enc records j f why = IsRecordReason enc j f.kind f.key why

-- none of the records is at fault: there are none, or some transaction begins with them, or the one is an item alone
abbrev pub MayGoOn : List RecordValue → Type 0
MayGoOn [] = Unit {0}
MayGoOn (r ∷ rs) = IsBegun (r ∷ rs) ⊎ (IsAlone r.kind × (rs ≡ []))

-- The fault is that of one of the values, told by its number. All before it are data of records, none of which is at fault.
pub record IsAmong (enc : Encoding) (js : List Json) (f : LineFault) : Type 0 where
  pub before : List Json
  pub value : Json
  pub after : List Json
  pub whole : js ≡ before ++ value ∷ after
  pub number : f.record ≡ min (length before + 1) 4294967295
  pub records : List RecordValue
  pub said : AreRecordsData enc (items_of before) records
  pub goes_on : MayGoOn records
  pub reason : IsNextReason enc records value f f.why

-- why a line's value is data of no item: it is no object, it has no list of records, or one of those is wrong
abbrev pub IsItemReason : Encoding → Json → LineFault → Type 0
IsItemReason enc j f = (IsOfLine f × (f.why ≡ NotAnObject) × (members_in j ≡ None))
    ⊎ (((f.record ≡ 0) × (f.kind ≡ None) × IsSomeAnd (members_in j) (λ ms. IsListReason (told ms) f.key f.why))
    ⊎ IsSomeAnd (members_in j)
    (λ ms. (js : List Json) × (first_of records_key (told ms) ≡ Some (array (items_of js))) × IsAmong enc js f))

-- the line is JSON in UTF-8, and no data of an item of a transmission, for that reason
pub record SaysNone (enc : Encoding) (line : List ℕ) (f : LineFault) : Type 0 where
  pub value : Json
  pub utf8 : IsUtf8 line
  pub text : document line ≡ Some value
  pub none : NoItem (IsItemData enc value)
  pub reason : IsItemReason enc value f

-- What the reason says of a line after items: it has more than so many bytes; it isn't JSON in UTF-8; it is data of an item, which
-- can't come there; or else it is JSON, but data of no item of a transmission, and what is told of it is so.
abbrev pub IsReasonOf : Encoding → LimitValues → ℕ → List Item → List ℕ → LineFault → Why → Type 0
IsReasonOf enc limits most items line f TooLong = IsOfLine f × (most < length line)
IsReasonOf enc limits most items line f NotJson = IsOfLine f × (IsUtf8 line → document line ≡ None)
IsReasonOf enc limits most items line f OutOfOrder = IsOfLine f × SaysMisplaced enc limits items line OutOfOrder
IsReasonOf enc limits most items line f WrongKind = IsOfLine f × SaysMisplaced enc limits items line WrongKind
IsReasonOf enc limits most items line f (Incomplete lack) = IsOfLine f × SaysMisplaced enc limits items line (Incomplete lack)
IsReasonOf enc limits most items line f (Limit limit) = IsOfLine f × SaysMisplaced enc limits items line (Limit limit)
IsReasonOf enc limits most items line f why = SaysNone enc line f

abbrev pub IsReason : Encoding → LimitValues → ℕ → List Item → List ℕ → LineFault → Type 0
IsReason enc limits most items line f = IsReasonOf enc limits most items line f f.why
