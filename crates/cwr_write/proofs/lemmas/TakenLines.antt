-- What taking lines does to an encoder.
use Rattle.std.proofs.Common.{◌≡◌, ◌≢◌, ℕ, Bool, false, List, [], ◌∷◌, ◌++◌, length, map, Option, Some, refl, sym, ap, ap₂, subst}
use Rattle.std.proofs.Common.{◌∙◌, arith, append_assoc, append-nil}
use Rattle.std.specs.Prelude.{Result, Ok, Err, IfOk, IfSome}
use Rattle.std.proofs.lemmas.Grind.{flat_map-append}
use Rattle.json.specs.Json.{Json}
use Rattle.cwr_fields.specs.declared.codes.TransactionType.{TransactionType}
use Rattle.cwr_fields.specs.declared.codes.TransactionType.TheVariants.{Acknowledgement}
use Rattle.cwr_shape.specs.Format.Shapes.{IsShape}
use Rattle.cwr_judge.specs.Format.Items.{AreFirstItems, item_records, records_in}
use Rattle.cwr_values.specs.Format.Rows.{trailer}
use Rattle.cwr_json.specs.declared.encodings.Encoding.{Encoding}
use Rattle.cwr_write.specs.declared.writing.Reached.{Reached}
use Rattle.cwr_write.specs.declared.writing.Reached.TheVariants as reached_to
use Rattle.cwr_lines.specs.Format.Records.{RecordValue}
use Rattle.cwr_values.specs.declared.items.Item.{Item}
use Rattle.cwr_values.specs.declared.items.Item.TheVariants.{Opened, GroupOpened, Transaction, GroupClosed, Ended}
use Rattle.cwr_encode.specs.declared.encoders.Encoder.{Encoder}
use Rattle.cwr_encode.specs.declared.encoders.EncodeFault.{EncodeFault}
use Rattle.cwr_encode.specs.declared.encoders.EncodeFault.TheVariants as encode_faults
use Rattle.cwr_encode.specs.Steps.Encoders.{AddsRecords, Encodes, RepresentsMore, encoder_limits, is_stopped, target_of}
use Rattle.cwr_shape.specs.Format.Ranges.{LimitValues}
use Rattle.cwr_values.specs.Format.Values.{FitsIn, symbol_of}
use Rattle.cwr_encode.specs.Format.Encoders.{IsUnlimited, reached, reached_by}
use Rattle.cwr_encode.specs.Format.Finishing.{IsBeforeTrailer, JudgesEnd}
use Rattle.cwr_encode.specs.Steps.Finishing.{FinishesWriting}
use Rattle.cwr_encode.proofs.lemmas.Comes.{trailer_last}
use Rattle.cwr_fields.specs.declared.kinds.Kind.TheVariants as kinds
use Rattle.cwr_shape.specs.declared.symbols.Symbol.{Symbol}
use Rattle.cwr_shape.specs.declared.symbols.Symbol.TheVariants.{Plain}
use Rattle.cwr_shape.specs.Format.NextSymbols.{MayCome}
use Rattle.cwr_shape.specs.Steps.Tallies.{IsTallyOf, TallyValue}
use Rattle.cwr_write.specs.declared.input_lines.ReadFault.{ReadFault}
use Rattle.cwr_write.specs.declared.input_lines.ReadFault.TheVariants as read_faults
use Rattle.cwr_write.specs.declared.writing.Written.{Written}
use Rattle.cwr_write.specs.declared.writing.WriteFault.{WriteFault}
use Rattle.cwr_write.specs.declared.writing.WriteFault.TheVariants as write_faults
use Rattle.cwr_devices.specs.Format.Failures.{one_more_failure}
use Rattle.std.specs.Str.{IsUtf8}
use Rattle.json.specs.Json.{document}
use Rattle.json.specs.declared.value.Value.{Value}
use Rattle.json.specs.Value.{value_view}
use Rattle.cwr_json.specs.Format.Forms.{IsItemData}
use Rattle.cwr_write.specs.Format.Imports.{CountsReaderFault, CountsWriterFault, SaysItem, SaysItems, WritesWhole, given_in}
use Rattle.cwr_write.specs.Format.Imports.{given_records}
use Rattle.cwr_write.specs.declared.refusals.LineFault.{LineFault}
use Rattle.cwr_write.specs.declared.refusals.Why.{Why}
use Rattle.cwr_write.specs.declared.refusals.Why.TheVariants as whys
use Rattle.cwr_write.specs.declared.items.ItemFault.{ItemFault}
use Rattle.cwr_write.specs.declared.items.ItemFault.TheVariants as item_faults
use Rattle.cwr_write.specs.Steps.Members.{IsKinded}
use Rattle.cwr_write.specs.Format.Faults.{IsOfLine, IsItem, IsItemReason, IsOfData, IsPlaceReason, IsReason, IsReasonOf, NoItem}
use Rattle.cwr_write.specs.Format.Faults.{SaysNone, reached_with}
use Rattle.cwr_write.specs.Format.Lacks.{lack_of}
use Rattle.cwr_write.specs.Steps.Taking.{CountsReading, EndsWith, FinishesLines, Goes, HaveGiven, IsFaultOf, IsFinishFault}
use Rattle.cwr_write.specs.Steps.Taking.{IsLine, IsNoWriter, IsOther, IsOwn, IsOwnRun, OnLine, IsRefusedAt, IsRunFaultOf}
use Rattle.cwr_write.specs.Steps.Taking.{IsUnreadFault, JudgesNext, NoReader, Stands, StandsWith, TakesLine, TakesLines}
use Rattle.cwr_write.specs.Steps.Taking.{IsCutShort}
use Rattle.cwr_write.proofs.lemmas.ItemsInOrder.{IsOwnItem, begins_none, kinded_heads, last_type, own_heads, own_next, same_item}
use Rattle.cwr_write.proofs.lemmas.LinesTaken.{says_once, value_once}
use Rattle.cwr_write.proofs.lemmas.TakenItems.{reached-snoc-item, stands_whole}

-- TRL, and what is refused, is given to no encoder
pub adds_nothing : {W : Type 0} (contents : W → Option (List ℕ)) (failures : W → ℕ) (item : Item) (e : Encoder W)
    (answer : Result (Unit {0}) EncodeFault) → is_stopped e ≡ false → item ≡ Ended → IsNoWriter answer
    → AddsRecords contents failures (given_records item) answer e e
adds_nothing {W = W} contents failures item e answer unfailed same h =
    subst (λ (i : Item). AddsRecords contents failures (given_records i) answer e e) (sym same) (by answer h)
  where
    by : (a : Result (Unit {0}) EncodeFault) → IsNoWriter a → AddsRecords contents failures [] a e e
    by (Ok u) h = (
      λ start records r. subst (λ (l : List RecordValue). Encodes contents start l e) (sym (append-nil records)) r,
      unfailed,
      refl,
    )
    by (Err encode_faults.OutOfOrder) h = refl
    by (Err encode_faults.WrongKind) h = refl
    by (Err encode_faults.Incomplete) h = refl
    by (Err (encode_faults.Limit limit)) h = refl
    by (Err (encode_faults.Writer written)) h = absurd h

-- records one after another
pub represents_both : {W : Type 0} (contents : W → Option (List ℕ)) (added more : List RecordValue) (old mid new : Encoder W)
    → RepresentsMore contents added old mid → RepresentsMore contents more mid new
    → RepresentsMore contents (added ++ more) old new
represents_both contents added more old mid new p q =
    λ start records r. subst (λ (l : List RecordValue). Encodes contents start l new) (append_assoc records added more)
    (q start (records ++ added) (p start records r))

pub represents_none : {W : Type 0} (contents : W → Option (List ℕ)) (e : Encoder W) → RepresentsMore contents [] e e
represents_none contents e =
    λ start records r. subst (λ (l : List RecordValue). Encodes contents start l e) (sym (append-nil records)) r

-- what finishing writes is the whole of a transmission
pub written_whole : {W : Type 0} (enc : Encoding) (limits : LimitValues) (left : Option (List ℕ)) (contents : W → Option (List ℕ))
    (failures : W → ℕ) (writer new : W) (items : List Item) (first last : Encoder W) (answer : Result Written WriteFault)
    → Encodes contents (contents writer) [] first → RepresentsMore contents (given_in items) first last
    → encoder_limits last ≡ limits → records_in items ≡ given_in items ++ trailer ∷ []
    → IfSome left (λ text. SaysItems enc text items)
    → IfOk answer (λ w. FinishesWriting contents failures last new (Ok w.bytes))
    → IfOk answer (λ w. WritesWhole enc limits left contents writer new w.bytes)
written_whole {W = W} enc limits left contents failures writer new items first last (Ok w) h more same ended said p =
    let f = p.1 (contents writer) ([] ++ given_in items) (more (contents writer) [] h) in
    record {
      value = f.0;
      whole = f.1.whole;
      within = subst (λ (l : LimitValues). FitsIn l f.0) same f.1.within;
      written = f.2;
      items = items;
      records_are = f.1.records_are ∙ sym ended;
      said = said;
    }
written_whole {W = W} enc limits left contents failures writer new items first last (Err e) h more same ended said p = tt

-- ---- the end of an encoder

before_trailer : (xs : List Symbol) → reached xs ≡ reached_by (Some (Plain kinds.Grt)) → IsBeforeTrailer (reached xs)
before_trailer xs e = subst IsBeforeTrailer (sym e) tt

-- where TRL may come, only the writer fails
pub finish_ended : (t : TallyValue) (xs : List Symbol) (lines : ℕ) (fault : EncodeFault) (told : WriteFault) → IsTallyOf t xs
    → MayCome t.limits xs (Plain kinds.Trl) → JudgesEnd {A = ℕ} t.limits xs (Err fault) → IsUnlimited {A = ℕ} (Err fault)
    → IsFinishFault lines fault told
    → FinishesLines lines (Err told)
finish_ended t xs lines encode_faults.OutOfOrder told st comes j u f = absurd (j (before_trailer xs (trailer_last t xs st comes)))
finish_ended t xs lines encode_faults.WrongKind told st comes j u f = absurd (j.1 tt)
finish_ended t xs lines encode_faults.Incomplete told st comes j u f = absurd (j.2 (trailer_last t xs st comes))
finish_ended t xs lines (encode_faults.Limit limit) told st comes j u f = absurd u
finish_ended t xs lines (encode_faults.Writer written) told st comes j u f =
    subst (λ (w : WriteFault). FinishesLines lines (Err w)) (sym f) tt

pub finish_counts : {W : Type 0} (contents : W → Option (List ℕ)) (failures : W → ℕ) (e : Encoder W) (writer : W) (lines : ℕ)
    (fault : EncodeFault) (told : WriteFault) → FinishesWriting contents failures e writer (Err fault) → IsFinishFault lines fault
    told
    → CountsWriterFault {A = Written} (Err told) (failures (target_of e)) (failures writer)
finish_counts contents failures e writer lines encode_faults.OutOfOrder told h f =
    subst (λ (w : WriteFault). CountsWriterFault {A = Written} (Err w) (failures (target_of e)) (failures writer)) (sym f)
    (ap failures h)
finish_counts contents failures e writer lines encode_faults.WrongKind told h f =
    subst (λ (w : WriteFault). CountsWriterFault {A = Written} (Err w) (failures (target_of e)) (failures writer)) (sym f)
    (ap failures h)
finish_counts contents failures e writer lines encode_faults.Incomplete told h f =
    subst (λ (w : WriteFault). CountsWriterFault {A = Written} (Err w) (failures (target_of e)) (failures writer)) (sym f)
    (ap failures h)
finish_counts contents failures e writer lines (encode_faults.Limit limit) told h f =
    subst (λ (w : WriteFault). CountsWriterFault {A = Written} (Err w) (failures (target_of e)) (failures writer)) (sym f)
    (ap failures h)
finish_counts contents failures e writer lines (encode_faults.Writer written) told h f =
    subst (λ (w : WriteFault). CountsWriterFault {A = Written} (Err w) (failures (target_of e)) (failures writer)) (sym f) h.0

-- after a fault of the writer the first bytes of the transmission are written
pub finish_cut : {W : Type 0} (contents : W → Option (List ℕ)) (failures : W → ℕ) (e : Encoder W) (writer : W) (lines : ℕ)
    (fault : EncodeFault) (told : WriteFault) → FinishesWriting contents failures e writer (Err fault)
    → IsFinishFault lines fault told → IsCutShort contents failures e writer (Err told)
finish_cut contents failures e writer lines (encode_faults.Writer written) told h f =
    subst (λ (w : WriteFault). IsCutShort contents failures e writer (Err w)) (sym f) h
finish_cut contents failures e writer lines encode_faults.OutOfOrder told h f =
    subst (λ (w : WriteFault). IsCutShort contents failures e writer (Err w)) (sym f) tt
finish_cut contents failures e writer lines encode_faults.WrongKind told h f =
    subst (λ (w : WriteFault). IsCutShort contents failures e writer (Err w)) (sym f) tt
finish_cut contents failures e writer lines encode_faults.Incomplete told h f =
    subst (λ (w : WriteFault). IsCutShort contents failures e writer (Err w)) (sym f) tt
finish_cut contents failures e writer lines (encode_faults.Limit limit) told h f =
    subst (λ (w : WriteFault). IsCutShort contents failures e writer (Err w)) (sym f) tt

pub finish_unread : (lines : ℕ) (fault : EncodeFault) (told : WriteFault) → IsFinishFault lines fault told
    → NoReader {A = Written} (Err told)
finish_unread lines (encode_faults.Writer written) told f = subst (λ (w : WriteFault). NoReader {A = Written} (Err w)) (sym f) tt
finish_unread lines encode_faults.OutOfOrder told f = subst (λ (w : WriteFault). NoReader {A = Written} (Err w)) (sym f) tt
finish_unread lines encode_faults.WrongKind told f = subst (λ (w : WriteFault). NoReader {A = Written} (Err w)) (sym f) tt
finish_unread lines encode_faults.Incomplete told f = subst (λ (w : WriteFault). NoReader {A = Written} (Err w)) (sym f) tt
finish_unread lines (encode_faults.Limit limit) told f = subst (λ (w : WriteFault). NoReader {A = Written} (Err w)) (sym f) tt

-- the answers for an item, whatever items the encoder stands for
abbrev pub Judged : {W : Type 0} → (W → Option (List ℕ)) → Item → Reached → Encoder W → Result (Unit {0}) EncodeFault → Type 0
Judged contents item before e answer =
    (start : Option (List ℕ)) (items : List Item) → Stands contents start items before e
    → JudgesNext (encoder_limits e) items item answer

-- the place of the item is the reason
abbrev pub PlaceOf : Item → LimitValues → List Item → LineFault → Type 0
PlaceOf item limits items f = IsOfLine f × IsPlaceReason limits items item f.why

abbrev Refuses : {W : Type 0} → (W → Option (List ℕ)) → Item → Reached → Encoder W → Why → Type 0
Refuses contents item before e why =
    (start : Option (List ℕ)) (items : List Item) → Stands contents start items before e
    → (¬ AreFirstItems (encoder_limits e) (items ++ item ∷ [])) × IsPlaceReason (encoder_limits e) items item why

-- a fault of an item's place changes nothing
place_fault : {W : Type 0} (item : Item) (before : Reached) (contents : W → Option (List ℕ)) (failures : W → ℕ)
    (fault : LineFault) (old new : Encoder W) → new ≡ old → IsOfLine fault → Refuses contents item before old fault.why
    → TakesLine (λ i. i ≡ item) (PlaceOf item) before contents failures (Err (item_faults.Line fault)) old new
place_fault {W = W} item before contents failures fault old new same first refuses = (
  same,
  (λ start items s i is. subst (λ (x : Item). ¬ AreFirstItems (encoder_limits old) (items ++ x ∷ [])) (sym is)
      (refuses start items s).0),
  λ start items s. (first, (refuses start items s).1),
)

of_why : (limits : LimitValues) (items : List Item) (item : Item) (why other : Why) → why ≡ other
    → IsPlaceReason limits items item other → IsPlaceReason limits items item why
of_why limits items item why other e h = subst (IsPlaceReason limits items item) (sym e) h

pub taken_fault : {W : Type 0} (item : Item) (before : Reached) (contents : W → Option (List ℕ)) (failures : W → ℕ)
    (fault : EncodeFault) (told : ItemFault) (old new : Encoder W)
    → AddsRecords contents failures (given_records item) (Err fault) old new
    → Judged contents item before old (Err fault) → IsFaultOf item fault told
    → TakesLine (λ i. i ≡ item) (PlaceOf item) before contents failures (Err told) old new
taken_fault item before contents failures encode_faults.OutOfOrder (item_faults.Line t) old new h j f =
    place_fault item before contents failures t old new h f.0
    (λ start items s. let p = j start items s in (p.0, of_why (encoder_limits old) items item t.why whys.OutOfOrder f.1 p.1))
taken_fault item before contents failures encode_faults.WrongKind (item_faults.Line t) old new h j f =
    place_fault item before contents failures t old new h f.0
    (λ start items s. let p = j start items s in (p.0, of_why (encoder_limits old) items item t.why whys.WrongKind f.1 p.1))
taken_fault item before contents failures encode_faults.Incomplete (item_faults.Line t) old new h j f =
    place_fault item before contents failures t old new h f.0 (λ start items s. let p =
    j start items s in (p.0, of_why (encoder_limits old) items item t.why (whys.Incomplete (lack_of item)) f.1 (p.1, refl)))
taken_fault item before contents failures (encode_faults.Limit limit) (item_faults.Line t) old new h j f =
    place_fault item before contents failures t old new h f.0 (λ start items s. let p =
    j start items s in (p.0, of_why (encoder_limits old) items item t.why (whys.Limit limit) f.1 p.1))
taken_fault {W = W} item before contents failures (encode_faults.Writer written) told old new h j f =
    subst (λ (t : ItemFault). TakesLine (λ i. i ≡ item) (PlaceOf item) before contents failures (Err t) old new) (sym f)
    (h.3, (item, refl, h.0, h.2, j))
taken_fault item before contents failures fault told old new h j f = absurd f

-- a run that stops
pub stops_other : {W : Type 0} (enc : Encoding) (left : Option (List ℕ)) (contents : W → Option (List ℕ)) (failures : W → ℕ)
    (fault : WriteFault) (old new : Encoder W) → IsOther fault → failures (target_of new) ≡ failures (target_of old) → TakesLines
    enc left contents failures (Err fault) old new
stops_other enc left contents failures (write_faults.Refused r) old new other same = same
stops_other enc left contents failures (write_faults.Early lines) old new other same = same
stops_other enc left contents failures write_faults.Reader old new other same = same
stops_other enc left contents failures (write_faults.Writer written) old new other same = absurd other
stops_other enc left contents failures write_faults.Memory old new other same = same

own_other : (fault : WriteFault) → IsOwnRun fault → IsOther fault
own_other (write_faults.Refused r) own = tt
own_other (write_faults.Early lines) own = tt
own_other write_faults.Reader own = absurd own
own_other (write_faults.Writer written) own = absurd own
own_other write_faults.Memory own = tt

refused_own : (n : ℕ) (why : LineFault) (fault : WriteFault) → IsRefusedAt n why fault → IsOwnRun fault
refused_own n why (write_faults.Refused r) h = tt
refused_own n why (write_faults.Early lines) h = absurd h
refused_own n why write_faults.Reader h = absurd h
refused_own n why (write_faults.Writer written) h = absurd h
refused_own n why write_faults.Memory h = absurd h

memory_own : (fault : WriteFault) → fault ≡ write_faults.Memory → IsOwnRun fault
memory_own fault e = subst IsOwnRun (sym e) tt

-- where a line can't be read
pub stops_unread : {W : Type 0} (enc : Encoding) (n : ℕ) (left : Option (List ℕ)) (contents : W → Option (List ℕ))
    (failures : W → ℕ) (fault : ReadFault) (told : WriteFault) (old new : Encoder W) → IsUnreadFault n fault told → failures
    (target_of new) ≡ failures (target_of old)
    → TakesLines enc left contents failures (Err told) old new
stops_unread {W = W} enc n left contents failures read_faults.Reader told old new t same =
    subst (λ (f : WriteFault). TakesLines enc left contents failures (Err f) old new) (sym t) same
stops_unread enc n left contents failures read_faults.Memory told old new t same =
    stops_other enc left contents failures told old new (own_other told (memory_own told t)) same
stops_unread enc n left contents failures read_faults.TooLong told old new t same =
    stops_other enc left contents failures told old new (own_other told (refused_own n _ told t.3)) same

reads_own : (fault : WriteFault) (old new : ℕ) → IsOwnRun fault → new ≡ old → CountsReaderFault {A = ℕ} (Err fault) old new
reads_own (write_faults.Refused r) old new own same = same
reads_own (write_faults.Early lines) old new own same = same
reads_own write_faults.Reader old new own same = absurd own
reads_own (write_faults.Writer written) old new own same = absurd own
reads_own write_faults.Memory old new own same = same

pub reads_unread : (n : ℕ) (fault : ReadFault) (told : WriteFault) (old mid new : ℕ)
    → CountsReading {A = Bool} (Err fault) mid new → IsUnreadFault n fault told → mid ≡ old
    → CountsReaderFault {A = ℕ} (Err told) old new
reads_unread n read_faults.Reader told old mid new h t same =
    subst (λ (f : WriteFault). CountsReaderFault {A = ℕ} (Err f) old new) (sym t) (h ∙ ap one_more_failure same)
reads_unread n read_faults.Memory told old mid new h t same = reads_own told old new (memory_own told t) (h ∙ same)
reads_unread n read_faults.TooLong told old mid new h t same = reads_own told old new (refused_own n _ told t.3) (h ∙ same)

-- a fault of an item isn't the reader's
pub reads_stopped : (n : ℕ) (fault : ItemFault) (told : WriteFault) (old new : ℕ) → IsRunFaultOf n fault told → new ≡ old
    → CountsReaderFault {A = ℕ} (Err told) old new
reads_stopped n (item_faults.Line f) told old new t same = reads_own told old new (refused_own n _ told t) same
reads_stopped n item_faults.Memory told old new t same = reads_own told old new (memory_own told t) same
reads_stopped n (item_faults.Writer written) told old new t same =
    subst (λ (f : WriteFault). CountsReaderFault {A = ℕ} (Err f) old new) (sym t) same

pub stops_at : {W : Type 0} (enc : Encoding) (n : ℕ) (is : Item → Type 0) (reason : LimitValues → List Item → LineFault → Type 0)
    (before : Reached) (left : Option (List ℕ)) (contents : W → Option (List ℕ)) (failures : W → ℕ) (fault : ItemFault)
    (told : WriteFault) (old mid new : Encoder W) → TakesLine is reason before contents failures (Err fault) mid new
    → IsRunFaultOf n fault told → failures (target_of mid) ≡ failures (target_of old)
    → TakesLines enc left contents failures (Err told) old new
stops_at {W = W} enc n is reason before left contents failures (item_faults.Line f) told old mid new h t same =
    stops_other enc left contents failures told old new (own_other told (refused_own n _ told t))
    (ap (λ (e : Encoder W). failures (target_of e)) h.0 ∙ same)
stops_at {W = W} enc n is reason before left contents failures item_faults.Memory told old mid new h t same =
    stops_other enc left contents failures told old new (own_other told (memory_own told t))
    (ap (λ (e : Encoder W). failures (target_of e)) h ∙ same)
stops_at {W = W} enc n is reason before left contents failures (item_faults.Writer written) told old mid new h t same =
    subst (λ (f : WriteFault). TakesLines enc left contents failures (Err f) old new) (sym t) (h.0 ∙ ap one_more_failure same)

pub reads_none : {A : Type 0} (answer : Result A WriteFault) (old new : ℕ) → NoReader answer → new ≡ old
    → CountsReaderFault answer old new
reads_none {A = A} (Ok x) old new none same = same
reads_none {A = A} (Err (write_faults.Refused r)) old new none same = same
reads_none {A = A} (Err (write_faults.Early lines)) old new none same = same
reads_none {A = A} (Err write_faults.Reader) old new none same = absurd none
reads_none {A = A} (Err (write_faults.Writer written)) old new none same = same
reads_none {A = A} (Err write_faults.Memory) old new none same = same

-- ---- the items of the lines

-- what is so of an item is so of the one that it is
pub taken_so : {W : Type 0} (is : Item → Type 0) (reason other : LimitValues → List Item → LineFault → Type 0)
    (before after : Reached) (contents : W → Option (List ℕ)) (failures : W → ℕ) (item : Item) (old new : Encoder W) → is item
    → TakesLine (λ i. i ≡ item) other before contents failures (Ok after) old new
    → TakesLine is reason before contents failures (Ok after) old new
taken_so is reason other before after contents failures item old new h t = (t.0, subst is (sym t.1) h, t.2, t.3, t.4, t.5, t.6)

pub goes_on : (item : Item) (before after : Reached) → before ≢ reached_to.End → after ≡ reached_with item
    → Goes before item after
goes_on (Opened r) before after h w = (h, λ e. cc (sym w ∙ e))
goes_on (GroupOpened r) before after h w = (h, λ e. cc (sym w ∙ e))
goes_on (Transaction t) before after h w = (h, λ e. cc (sym w ∙ e))
goes_on (GroupClosed r) before after h w = (h, λ e. cc (sym w ∙ e))
goes_on Ended before after h w = (h, w)

one_more : (items : List Item) (item : Item) → (records_in (items ++ item ∷ []) ≡ records_in items ++ item_records item)
    × (given_in (items ++ item ∷ []) ≡ given_in items ++ given_records item)
one_more items item = (
  flat_map-append item_records items (item ∷ [])
      ∙ ap (λ (l : List RecordValue). records_in items ++ l) (append-nil (item_records item)),
  flat_map-append given_records items (item ∷ [])
      ∙ ap (λ (l : List RecordValue). given_in items ++ l) (append-nil (given_records item)),
)

-- an item more was given
pub given_more : (items : List Item) (item : Item) (before after : Reached) → HaveGiven items before → Goes before item after
    → (given_in (items ++ item ∷ []) ≡ given_in items ++ given_records item) × HaveGiven (items ++ item ∷ []) after
given_more items item before after h g = ((one_more items item).1, by item g)
  where
    same : (i : Item) → before ≢ reached_to.End → item_records i ≡ given_records i
        → records_in (items ++ i ∷ []) ≡ given_in (items ++ i ∷ [])
    same i begun e =
        (one_more items i).0 ∙ ap₂ (λ (a : List RecordValue) (b : List RecordValue). a ++ b) (h.begun begun) e
        ∙ sym (one_more items i).1

    by : (i : Item) → Goes before i after → HaveGiven (items ++ i ∷ []) after
    by (Opened r) g = record { ended = λ e. absurd (g.1 e); begun = λ _. same (Opened r) g.0 refl }
    by (GroupOpened r) g = record { ended = λ e. absurd (g.1 e); begun = λ _. same (GroupOpened r) g.0 refl }
    by (Transaction t) g = record { ended = λ e. absurd (g.1 e); begun = λ _. same (Transaction t) g.0 refl }
    by (GroupClosed r) g = record { ended = λ e. absurd (g.1 e); begun = λ _. same (GroupClosed r) g.0 refl }
    by Ended g = record {
      ended =
          λ _. (one_more items Ended).0 ∙ ap (λ (l : List RecordValue). l ++ trailer ∷ [])
          (h.begun g.0 ∙ sym (append-nil (given_in items)) ∙ sym (one_more items Ended).1);
      begun = λ n. absurd (n g.1);
    }

pub given_one_more : (items : List Item) (item : Item) → given_in (items ++ item ∷ []) ≡ given_in items ++ given_records item
given_one_more items item = (one_more items item).1

given_none : HaveGiven [] reached_to.Begun
given_none = record { ended = λ e. refl_absurd e; begun = λ _. refl }
  where
    refl_absurd : reached_to.Begun ≡ reached_to.End → records_in [] ≡ given_in [] ++ trailer ∷ []
    refl_absurd e = absurd (cc e)

-- a new encoder stands for no items, with which each transmission begins
pub stands_none : {W : Type 0} (contents : W → Option (List ℕ)) (start : Option (List ℕ)) (e : Encoder W)
    → Encodes contents start [] e → Stands contents start [] reached_to.Begun e
stands_none contents start e h =
    record { encodes = h; first = begins_none (encoder_limits e) h.counted.within; given = given_none; reached_is = refl }

-- the encoder stands for one item more
pub stands_with : {W : Type 0} (contents : W → Option (List ℕ)) (item : Item) (before after : Reached) (old new : Encoder W)
    → RepresentsMore contents (given_records item) old new → encoder_limits new ≡ encoder_limits old → Goes before item after
    → after ≡ reached_with item
    → Judged contents item before old (Ok tt) → StandsWith contents item before after old new
stands_with contents item before after old new more same goes at judged = λ start items s.
    let grown = given_more items item before after s.given goes in
    record {
      encodes =
          subst (λ (l : List RecordValue). Encodes contents start l new) (sym grown.0) (more start (given_in items) s.encodes);
      first = subst (λ (l : LimitValues). AreFirstItems l (items ++ item ∷ [])) (sym same) (judged start items s);
      given = grown.1;
      reached_is = at ∙ sym (reached-snoc-item reached_to.Begun items item);
    }

-- the item of a transmission that a line says is the one that was made of it
said_same : (enc : Encoding) (limits : LimitValues) (line : List ℕ) (items : List Item) (i item : Item) → IsKinded item
    → SaysItem enc line item → SaysItem enc line i → AreFirstItems limits (items ++ i ∷ []) → i ≡ item
said_same enc limits line items i item kinded own says f =
    same_item i item (own_heads (last_type Acknowledgement items) i (own_next limits items i f)) (kinded_heads item kinded)
    (says_once enc line i item says own)

-- what the reason says of the line
abbrev pub ReasonOf : Encoding → List ℕ → LimitValues → List Item → LineFault → Type 0
ReasonOf enc line limits items f = (most : ℕ) → IsReason enc limits most items line f

order_reason : (enc : Encoding) (limits : LimitValues) (most : ℕ) (items : List Item) (line : List ℕ) (i : Item) (f : LineFault)
    (why : Why) → SaysItem enc line i → IsOfLine f → IsPlaceReason limits items i why → IsReasonOf enc limits most items line f
    why
order_reason enc limits most items line i f whys.OutOfOrder says first h = (first, (i, says, h))
order_reason enc limits most items line i f whys.WrongKind says first h = (first, (i, says, h))
order_reason enc limits most items line i f (whys.Incomplete lack) says first h = (first, (i, says, h))
order_reason enc limits most items line i f (whys.Limit limit) says first h = (first, (i, says, h))
order_reason enc limits most items line i f why says first h = absurd h

data_reason : (enc : Encoding) (limits : LimitValues) (most : ℕ) (items : List Item) (line : List ℕ) (f : LineFault) (why : Why)
    → IsOfData why → SaysNone enc line f → IsReasonOf enc limits most items line f why
data_reason enc limits most items line f whys.NotJson h none = absurd h
data_reason enc limits most items line f whys.OutOfOrder h none = absurd h
data_reason enc limits most items line f whys.WrongKind h none = absurd h
data_reason enc limits most items line f (whys.Incomplete lack) h none = absurd h
data_reason enc limits most items line f (whys.Limit limit) h none = absurd h
data_reason enc limits most items line f whys.TooLong h none = absurd h
data_reason enc limits most items line f why h none = none

-- what is taken of the item that a line says
pub taken_result : {W A : Type 0} (enc : Encoding) (line : List ℕ) (value : Value A) (before : Reached)
    (contents : W → Option (List ℕ)) (failures : W → ℕ) (item : Item) (answer : Result Reached ItemFault) (old new : Encoder W)
    → IsUtf8 line
    → document line ≡ Some (value_view value) → IsItemData enc (value_view value) (item_records item) → IsKinded item
    → TakesLine (λ i. i ≡ item) (PlaceOf item) before contents failures answer old new
    → TakesLine (SaysItem enc line) (ReasonOf enc line) before contents failures answer old new
taken_result enc line value before contents failures item (Ok after) old new utf8 text says kinded t =
    taken_so (SaysItem enc line) (ReasonOf enc line) (PlaceOf item) before after contents failures item old new
    (record { value = value_view value; utf8 = utf8; text = text; says = says }) t
taken_result {W = W} enc line value before contents failures item (Err (item_faults.Line fault)) old new utf8 text says kinded t =
    let own : SaysItem enc line item = record { value = value_view value; utf8 = utf8; text = text; says = says } in (
      t.0,
      (λ start items s i is f. t.1 start items s i (said_same enc (encoder_limits old) line items i item kinded own is f) f),
      λ start items s most. order_reason enc (encoder_limits old) most items line item fault fault.why own (t.2 start items s).0
          (t.2 start items s).1,
    )
taken_result enc line value before contents failures item (Err item_faults.Memory) old new utf8 text says kinded t = t
taken_result enc line value before contents failures item (Err (item_faults.Writer written)) old new utf8 text says kinded t =
    let own : SaysItem enc line item = record { value = value_view value; utf8 = utf8; text = text; says = says } in
    (t.0, (t.1.0, subst (SaysItem enc line) (sym t.1.1) own, t.1.2, t.1.3, t.1.4))

own_is_item : (ty : TransactionType) (i : Item) → IsOwnItem ty i → IsItem i
own_is_item ty (Opened r) h = h
own_is_item ty (GroupOpened r) h = h
own_is_item ty (GroupClosed r) h = h
own_is_item ty Ended h = tt
own_is_item ty (Transaction t) h =
    let p = own_heads ty (Transaction t) h in (
      record { each = h.0; begins = (ty, [], subst (IsShape ty) (sym (append-nil (map symbol_of t))) h.1) },
      omega (arith, ap length p.whole),
    )

-- a line whose value is no item's data
pub none_made : {W A : Type 0} (enc : Encoding) (line : List ℕ) (value : Value A) (before : Reached)
    (contents : W → Option (List ℕ)) (failures : W → ℕ) (fault : ItemFault) (e : Encoder W) → IsUtf8 line → document line ≡ Some
    (value_view value) → IsOwn fault
    → (IsLine fault → NoItem (IsItemData enc (value_view value))) → OnLine fault (IsItemReason enc (value_view value))
    → TakesLine (SaysItem enc line) (ReasonOf enc line) before contents failures (Err fault) e e
none_made enc line value before contents failures (item_faults.Line f) e utf8 text own none reason = (
  refl,
  (λ start items s i says first.
      none tt i (own_is_item (last_type Acknowledgement items) i (own_next (encoder_limits e) items i first)) (subst
      (λ (j : Json). IsItemData enc j (item_records i)) (value_once line says.value (value_view value) says.text text)
      says.says)),
  λ start items s most. data_reason enc (encoder_limits e) most items line f f.why own
      (record { value = value_view value; utf8 = utf8; text = text; none = none tt; reason = reason }),
)
none_made enc line value before contents failures item_faults.Memory e utf8 text own none reason = refl
none_made enc line value before contents failures (item_faults.Writer written) e utf8 text own none reason = absurd own

-- ---- all lines were taken

pub ends_lines : {W : Type 0} (enc : Encoding) (n : ℕ) (left : Option (List ℕ)) (contents : W → Option (List ℕ))
    (failures : W → ℕ) (start : Option (List ℕ)) (reached : Reached) (items : List Item) (answer : Result ℕ WriteFault)
    (old new : Encoder W) → EndsWith n reached answer
    → RepresentsMore contents (given_in items) old new → is_stopped new ≡ false
    → failures (target_of new) ≡ failures (target_of old) → Stands contents start items reached new
    → IfSome left (λ text. SaysItems enc text items)
    → TakesLines enc left contents failures answer old new
ends_lines enc n left contents failures start reached items (Ok lines) old new e more unfailed same s said =
    (items, more, unfailed, same, s.given.ended e.0, said, stands_whole contents start items reached new s e.0)
ends_lines enc n left contents failures start reached items (Err fault) old new e more unfailed same s said =
    stops_other enc left contents failures fault old new (subst IsOther (sym e.1) tt) same

pub ends_read : (n : ℕ) (reached : Reached) (answer : Result ℕ WriteFault) (old new : ℕ) → EndsWith n reached answer → new ≡ old
    → CountsReaderFault {A = ℕ} answer old new
ends_read n reached (Ok lines) old new e same = same
ends_read n reached (Err fault) old new e same =
    subst (λ (f : WriteFault). CountsReaderFault {A = ℕ} (Err f) old new) (sym e.1) same
