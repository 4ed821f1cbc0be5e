-- A selection at the end of its input, and at a fault.
use Rattle.std.proofs.Common.{ap₂, ◌≡◌, ℕ, ◌<◌, List, [], ◌∷◌, ◌++◌, length, map, drop, Option, Some, None, false, sym, ap}
use Rattle.std.proofs.Common.{subst, ◌∙◌, append-nil, inl, inr}
use Rattle.std.specs.Prelude.{Result, Ok, Err, IfSome, MatchResult, option_map}
use Rattle.std.specs.List.{flat_map}
use Rattle.std.specs.Io.KnownBytes.{Appends}
use Rattle.std.proofs.lemmas.List.{append_cancel_right, map-append}
use Rattle.cwr_shape.specs.declared.limits.Limits.{Limits}
use Rattle.cwr_shape.specs.Format.Ranges.{LimitValues}
use Rattle.cwr_values.specs.declared.items.Item.{Item}
use Rattle.cwr_values.specs.declared.items.Item.TheVariants.{Opened, Ended}
use Rattle.cwr_values.specs.Format.Values.{TransmissionValue, IsTransmission, FitsIn, symbol_of}
use Rattle.cwr_values.specs.Format.Rows.{canonical_text, records_of, trailer}
use Rattle.cwr_values.proofs.lemmas.OneSpelling.{one_value}
use Rattle.cwr_judge.specs.Format.Ends.{IsAccepted, IsRefused, IsTruncated}
use Rattle.cwr_judge.specs.Format.Items.{group_items, records_in, value_items}
use Rattle.cwr_judge.proofs.lemmas.Accepted.{accepted_once}
use Rattle.cwr_decode.specs.declared.readings.ReadFault.{ReadFault}
use Rattle.cwr_decode.specs.declared.readings.ReadFault.TheVariants as read_faults
use Rattle.cwr_decode.specs.Steps.Machines.{Standing}
use Rattle.cwr_decode.specs.Steps.Runs.{HasReadAll, IsReadingOn}
use Rattle.cwr_decode.proofs.lemmas.ItemsMakeOneTransmission.{items_once}
use Rattle.cwr_decode.proofs.lemmas.ItemsReadSoFar.{all_items, all_taken}
use Rattle.cwr_devices.specs.declared.sinks.Sink.{Sink}
use Rattle.cwr_devices.specs.Steps.Sinks.{HasWritten, has_failed, writer_of}
use Rattle.cwr_encode.specs.declared.encoders.EncodeFault.{EncodeFault}
use Rattle.cwr_encode.specs.declared.encoders.EncodeFault.TheVariants as encode_faults
use Rattle.cwr_encode.specs.Format.Encoders.{IsNoMistake, IsUnlimited, part_of, reached}
use Rattle.cwr_encode.specs.Format.Finishing.{HasFront, JudgesEnd}
use Rattle.cwr_encode.specs.Steps.Encoders.{Encodes, encoder_limits, is_stopped, target_of}
use Rattle.cwr_encode.specs.Steps.Finishing.{FinishesWriting}
use Rattle.cwr_encode.proofs.lemmas.Adding.{part_none}
use Rattle.cwr_tools.specs.declared.verdicts.ToolFault.{ToolFault}
use Rattle.cwr_tools.specs.declared.verdicts.ToolFault.TheVariants as tool_faults
use Rattle.cwr_tools.specs.Steps.Verdicts.{StopsAfter}
use Rattle.cwr_parts.specs.Format.Joins.{IsOfDevice}
use Rattle.cwr_parts.specs.Format.Splitting.{CountsSplitReader, CountsSplitWriter}
use Rattle.cwr_parts.specs.Steps.Joined.{is_fault_of, reading_fault}
use Rattle.cwr_parts.specs.Steps.SplitOutputs.{PutsOn}
use Rattle.cwr_parts.proofs.lemmas.ItemsAdded.{records_in-append, records_in_value}
use Rattle.cwr_parts.proofs.lemmas.JoinsEnded.{closed_end, reached_foot, right_end}
use Rattle.cwr_parts.proofs.lemmas.ToldItems.{refused_before, truncated_before}
use Rattle.cwr_select.specs.declared.changes.Changes.{Changes}
use Rattle.cwr_select.specs.declared.changes.WorkKind.{WorkKind}
use Rattle.cwr_select.specs.declared.held.Held.{Held}
use Rattle.cwr_select.specs.declared.reports.SelectReport.{SelectReport}
use Rattle.cwr_select.specs.declared.selecting.Selecting.{Selecting}
use Rattle.cwr_select.specs.Format.Created.{created_at}
use Rattle.cwr_select.specs.Format.Selections.{Choice, selected}
use Rattle.cwr_select.specs.Format.Sent.{selected_as, sent_as, sent_text, text_of}
use Rattle.cwr_select.specs.Format.Selecting.{Selects, SelectsAccepted, select_report}
use Rattle.cwr_select.specs.Steps.Headers.{created_item}
use Rattle.cwr_select.specs.Steps.Held.{held_after, items_after, none_held}
use Rattle.cwr_select.specs.Steps.Selecting.{EndsSelection, FailsIn, Finishes, HasSelected, MayFinish, SelectsItems, TakesItem}
use Rattle.cwr_select.specs.Steps.Selecting.{written_of}
use Rattle.cwr_select.specs.Steps.Sent.{sent_after, sent_item, sent_with}
use Rattle.cwr_select.proofs.lemmas.CreatedItems.{created_fits, created_items, created_right, same_numbers}
use Rattle.cwr_select.proofs.lemmas.ItemsWritten.{fails_then}
use Rattle.cwr_select.proofs.lemmas.SelectedFits.{none_selected, selected_fits, some_selected}
use Rattle.cwr_select.proofs.lemmas.SelectedItems.{none_written, some_written, whole_counted}
use Rattle.cwr_select.proofs.lemmas.SelectingOn.{IsSelecting, sent_more}
use Rattle.cwr_select.proofs.lemmas.SentItems.{ended_as, items_as}
use Rattle.cwr_select.proofs.lemmas.SentWorks.{sent_right}

-- ---- the items

-- all were read
pub all_selected : {W : Type 0} (limits : Limits) (changes : Changes) (choice : Choice) (d : Standing)
    (before left after : Option (List ℕ))
    (contents : W → Option (List ℕ)) (failures : W → ℕ) (count : ℕ) (old s : Selecting W) (u : Unit {0})
    → (h : IsSelecting limits changes choice d before left contents failures count old s) → HasReadAll limits before after h.given
    → SelectsItems limits changes choice contents failures before after (Ok u) old s
all_selected limits changes choice d before left after contents failures count old s u h read =
    let all = all_items limits before after h.given read in
    let same : map (created_item changes.created) h.given ≡ value_items (created_at changes.created all.value) =
    ap (map (created_item changes.created)) all.given_are ∙ sym (created_items changes.created all.value) in
    record {
      value = all.value;
      taken =
          all_taken limits before after h.given all.value read
          (λ w whole are. items_once all.value w (sym all.given_are ∙ are));
      held = h.held ∙ ap (held_after choice none_held) same;
      on =
          subst (λ (l : List Item). PutsOn contents failures (sent_after changes.works choice l) old.encoder s.encoder) same h.on;
    }

-- the reading stopped
pub reading_stopped : {W : Type 0} (limits : Limits) (changes : Changes) (choice : Choice) (d : Standing)
    (before left after : Option (List ℕ))
    (contents : W → Option (List ℕ)) (failures : W → ℕ) (count : ℕ) (old s : Selecting W) (fault : ReadFault)
    → (h : IsSelecting limits changes choice d before left contents failures count old s)
    → StopsAfter limits fault before after h.given
    → SelectsItems limits changes choice contents failures before after (Err (reading_fault fault)) old s
reading_stopped limits changes choice d before left after contents failures count old s read_faults.Reader h stop =
    record { given = h.given; stops = stop; on = h.on }
reading_stopped limits changes choice d before left after contents failures count old s (read_faults.Refused refusal) h stop =
    record { given = h.given; stops = stop; on = h.on }
reading_stopped limits changes choice d before left after contents failures count old s (read_faults.Truncated records) h stop =
    record { given = h.given; stops = stop; on = h.on }
reading_stopped limits changes choice d before left after contents failures count old s read_faults.Memory h stop =
    inl (record { given = h.given; stops = stop; on = h.on })

-- the writer failed in an item, or memory for it was refused
pub item_refused : (A : Type 0) {W : Type 0} (limits : Limits) (changes : Changes) (choice : Choice) (d new : Standing)
    (before left after : Option (List ℕ))
    (contents : W → Option (List ℕ)) (failures : W → ℕ) (count : ℕ) (old s next : Selecting W) (item put : Item)
    (fault : ToolFault) → put ≡ created_item changes.created item
    → (h : IsSelecting limits changes choice d before left contents failures count old s)
    → IsReadingOn limits new before after (h.given ++ item ∷ [])
    → TakesItem {A = A} contents failures changes.works (sent_with changes.works choice s.held put) (Err fault) s.encoder
    next.encoder
    → SelectsItems limits changes choice contents failures before after (Err fault) old next
item_refused A limits changes choice d new before left after contents failures count old s next item put (tool_faults.Writer n) e
    h reading w =
    let given : List Item = map (created_item changes.created) h.given in
    record {
      given = h.given ++ item ∷ [];
      handed_out = (new, reading);
      fails =
          subst (λ (l : List Item). FailsIn contents failures l n old.encoder next.encoder)
          (ap₂ (λ (k : Held) (i : Item). sent_after changes.works choice given ++ sent_with changes.works choice k i) h.held e
          ∙ sym (sent_more changes.works choice given (created_item changes.created item))
          ∙ ap (sent_after changes.works choice) (sym (map-append (created_item changes.created) h.given (item ∷ []))))
          (fails_then contents failures (sent_after changes.works choice given) (sent_with changes.works choice s.held put) n
          old.encoder s.encoder next.encoder h.on w);
    }
item_refused A limits changes choice d new before left after contents failures count old s next item put tool_faults.Memory e h
    reading w =
    inr (record {
      given = h.given;
      item = item;
      some = w.0;
      handed_out = (new, reading);
      on =
          subst (PutsOn contents failures (written_of changes choice h.given) old.encoder) (sym w.1) h.on;
    })
item_refused A limits changes choice d new before left after contents failures count old s next item put tool_faults.Reader e h
    reading w =
    absurd w
item_refused A limits changes choice d new before left after contents failures count old s next item put (tool_faults.Refused r) e h
    reading w =
    absurd w
item_refused A limits changes choice d new before left after contents failures count old s next item put (tool_faults.Truncated r) e h
    reading w =
    absurd w
item_refused A limits changes choice d new before left after contents failures count old s next item put tool_faults.Output e h
    reading w =
    absurd w
item_refused A limits changes choice d new before left after contents failures count old s next item put (tool_faults.Limit l) e h
    reading w =
    absurd w

-- ---- the end

-- how many transactions are selected
counted : {W : Type 0} (contents : W → Option (List ℕ)) (start : Option (List ℕ)) (works : Option WorkKind) (choice : Choice)
    (v : TransmissionValue) (s : Selecting W) → HasSelected contents start works choice v s → s.held.report ≡ select_report choice v
counted contents start works choice v s h =
    let all = whole_counted choice v in
    let selected : s.held.report.selected ≡ (select_report choice v).selected =
    ap (λ (k : Held). k.report.selected) h.held ∙ all.1 in
    let transactions : s.held.report.transactions ≡ (select_report choice v).transactions =
    ap (λ (k : Held). k.report.transactions) h.held ∙ all.0 in
    λ i. record { selected = selected i; transactions = transactions i }

pub written_whole : {W : Type 0} (contents : W → Option (List ℕ)) (start : Option (List ℕ)) (text : List ℕ) (sink : Sink W)
    → has_failed sink ≡ false → HasWritten contents start text sink → Appends start (contents (writer_of sink)) text
written_whole contents start text sink unfailed h =
    subst (Appends start (contents (writer_of sink)))
    (sym (h.split ∙ ap (λ (l : List ℕ). h.bytes ++ l) (h.whole unfailed) ∙ append-nil h.bytes)) h.appended

-- where none is, nothing is written
pub ends_empty : {W : Type 0} (contents : W → Option (List ℕ)) (s : Selecting W) → is_stopped s.encoder ≡ false
    → s.held.report.selected ≡ 0 → Finishes contents s (target_of s.encoder) (Ok s.held.report)
ends_empty contents s unfailed none = λ start works choice v h.
    let reported = counted contents start works choice v s h in
    let nothing : selected choice v ≡ None =
    none_selected choice v (sym (ap (λ (r : SelectReport). r.selected) reported) ∙ none) in
    let text : text_of (selected_as works choice v) ≡ [] =
    ap (λ (w : Option TransmissionValue). text_of (option_map (sent_as works) w)) nothing in
    let encodes : Encodes contents start (records_in []) s.encoder =
    subst (λ (l : List Item). Encodes contents start (records_in (map (sent_item works) l)) s.encoder)
    (none_written choice v nothing) h.encodes in (
      reported,
      subst (Appends start (contents (target_of s.encoder))) (sym text)
          (subst (Appends start (contents (target_of s.encoder))) part_none
          (written_whole contents start (part_of []) s.encoder.sink unfailed encodes.written)),
    )

-- TRL is no mistake after the items of a transmission
right_trailer : (limits : LimitValues) (w : TransmissionValue) (items : List Item) (answer : Result ℕ EncodeFault)
    → IsTransmission w → value_items w ≡ items ++ Ended ∷ [] → JudgesEnd limits (map symbol_of (records_in items)) answer
    → IsNoMistake answer
right_trailer limits w items answer whole e judged =
    let same : items ≡ Opened w.opening ∷ flat_map group_items w.groups =
    append_cancel_right items (Opened w.opening ∷ flat_map group_items w.groups) (Ended ∷ []) (sym e) in
    let foot =
    reached_foot (flat_map group_items w.groups) (closed_end w.groups whole.each whole.some_group) (Opened w.opening) in
    right_end limits (map symbol_of (records_in items)) answer
    (ap (λ (l : List Item). reached (map symbol_of (records_in l))) same ∙ foot) judged

-- the items of what is sent are written, but for TRL
some_sent : (works : Option WorkKind) (choice : Choice) (v w : TransmissionValue) → selected choice v ≡ Some w
    → value_items (sent_as works w) ≡ sent_after works choice (value_items v) ++ Ended ∷ []
some_sent works choice v w e =
    items_as works w ∙ ap (map (sent_item works)) (some_written choice v w e)
    ∙ map-append (sent_item works) (items_after choice none_held (value_items v)) (Ended ∷ [])
    ∙ ap (λ (i : Item). sent_after works choice (value_items v) ++ i ∷ []) (ended_as works)

-- so it is where a transaction was selected
pub right_last : {W : Type 0} (contents : W → Option (List ℕ)) (s : Selecting W) (answer : Result ℕ EncodeFault)
    → (may : MayFinish contents s) → 0 < s.held.report.selected
    → JudgesEnd (encoder_limits s.encoder)
    (map symbol_of (records_in (sent_after may.works may.choice (value_items may.value)))) answer → IsNoMistake answer
right_last contents s answer may some judged =
    let reported = counted contents may.start may.works may.choice may.value s may.all in
    let one =
    some_selected may.choice may.value (subst (λ (r : SelectReport). 0 < r.selected) reported some) in
    let right =
    selected_fits (encoder_limits s.encoder) may.choice may.value one.0 may.all.whole may.all.within one.1 in
    right_trailer (encoder_limits s.encoder) (sent_as may.works one.0)
    (sent_after may.works may.choice (value_items may.value)) answer (sent_right may.works one.0 right.0)
    (some_sent may.works may.choice may.value one.0 one.1) judged

-- what completes the records that are written is what is sent
completed : (works : Option WorkKind) (choice : Choice) (v w x : TransmissionValue) → IsTransmission (sent_as works w)
    → selected choice v ≡ Some w → IsTransmission x
    → records_of x ≡ records_in (sent_after works choice (value_items v)) ++ trailer ∷ []
    → canonical_text x ≡ text_of (selected_as works choice v)
completed works choice v w x whole e right records =
    let items : List Item = sent_after works choice (value_items v) in
    let own : records_of (sent_as works w) ≡ records_in items ++ trailer ∷ [] =
    sym (records_in_value (sent_as works w)) ∙ ap records_in (some_sent works choice v w e)
    ∙ records_in-append items (Ended ∷ []) in
    let same : x ≡ sent_as works w = one_value x (sent_as works w) right whole (records ∙ sym own) in
    ap canonical_text same ∙ sym (ap (λ (o : Option TransmissionValue). text_of (option_map (sent_as works) o)) e)

-- the transmission that is selected, and is one as it is sent
abbrev One : {W : Type 0} → Selecting W → Option WorkKind → Choice → TransmissionValue → Type 0
One s works choice v = (w : TransmissionValue) × (selected choice v ≡ Some w) × IsTransmission (sent_as works w)

the_one : {W : Type 0} (contents : W → Option (List ℕ)) (start : Option (List ℕ)) (works : Option WorkKind) (choice : Choice)
    (v : TransmissionValue) (s : Selecting W) → 0 < s.held.report.selected → HasSelected contents start works choice v s
    → One s works choice v
the_one contents start works choice v s some h =
    let reported = counted contents start works choice v s h in
    let one = some_selected choice v (subst (λ (r : SelectReport). 0 < r.selected) reported some) in
    (one.0, one.1, sent_right works one.0 (selected_fits (encoder_limits s.encoder) choice v one.0 h.whole h.within one.1).0)

-- what is sent is written
pub ends_whole : {W : Type 0} (contents : W → Option (List ℕ)) (failures : W → ℕ) (s : Selecting W) (new : W) (n : ℕ)
    → 0 < s.held.report.selected → FinishesWriting contents failures s.encoder new (Ok n)
    → Finishes contents s new (Ok s.held.report)
ends_whole contents failures s new n some f = λ start works choice v h.
    let one = the_one contents start works choice v s some h in
    let w = f.1 start (records_in (sent_after works choice (value_items v))) h.encodes in
    let text = completed works choice v one.0 w.0 one.2 one.1 w.1.whole w.1.records_are in
    (counted contents start works choice v s h, subst (Appends start (contents new)) text w.2.appended)

-- or the writer failed
pub ends_short : {W : Type 0} (contents : W → Option (List ℕ)) (failures : W → ℕ) (s : Selecting W) (new : W)
    (other : EncodeFault) (fault : ToolFault) → 0 < s.held.report.selected
    → FinishesWriting contents failures s.encoder new (Err other) → IsUnlimited {A = ℕ} (Err other) → is_fault_of other fault
    → Finishes contents s new (Err fault)
ends_short contents failures s new (encode_faults.Writer n) fault some f u e = λ start works choice v h.
    let one = the_one contents start works choice v s some h in
    let w = f.1 start (records_in (sent_after works choice (value_items v))) h.encodes in
    let text = completed works choice v one.0 w.0 one.2 one.1 w.1.whole w.1.records_are in
    subst (λ (x : ToolFault). EndsSelection contents start works choice v new (Err x)) (sym e)
    (subst (λ (t : List ℕ). HasFront contents start new t n) text w.2)
ends_short contents failures s new (encode_faults.Limit limit) fault some f u e = absurd u
ends_short contents failures s new encode_faults.OutOfOrder fault some f u e = absurd e
ends_short contents failures s new encode_faults.WrongKind fault some f u e = absurd e
ends_short contents failures s new encode_faults.Incomplete fault some f u e = absurd e

-- the writer's failures
pub counts_whole : {W : Type 0} (contents : W → Option (List ℕ)) (failures : W → ℕ) (s : Selecting W) (new : W) (n : ℕ)
    (report : SelectReport) → FinishesWriting contents failures s.encoder new (Ok n)
    → CountsSplitWriter {A = SelectReport} (Ok report) (failures (target_of s.encoder)) (failures new)
counts_whole contents failures s new n report f = f.0

pub counts_short : {W : Type 0} (contents : W → Option (List ℕ)) (failures : W → ℕ) (s : Selecting W) (new : W)
    (other : EncodeFault) (fault : ToolFault) → FinishesWriting contents failures s.encoder new (Err other)
    → IsUnlimited {A = ℕ} (Err other) → is_fault_of other fault
    → CountsSplitWriter {A = SelectReport} (Err fault) (failures (target_of s.encoder)) (failures new)
counts_short contents failures s new (encode_faults.Writer n) fault f u e =
    subst (λ (x : ToolFault). CountsSplitWriter {A = SelectReport} (Err x) (failures (target_of s.encoder)) (failures new))
    (sym e)
    f.0
counts_short contents failures s new (encode_faults.Limit limit) fault f u e = absurd u
counts_short contents failures s new encode_faults.OutOfOrder fault f u e = absurd e
counts_short contents failures s new encode_faults.WrongKind fault f u e = absurd e
counts_short contents failures s new encode_faults.Incomplete fault f u e = absurd e

-- ---- a whole run

-- all that is known of an end is so of the transmission that was read
pub selects_all : {W : Type 0} (limits : Limits) (changes : Changes) (choice : Choice) (contents : W → Option (List ℕ))
    (failures : W → ℕ)
    (before after : Option (List ℕ)) (old s : Selecting W) → encoder_limits old.encoder ≡ limits
    → Encodes contents (contents (target_of old.encoder)) [] old.encoder
    → (h : SelectsItems limits changes choice contents failures before after (Ok tt) old s)
    → HasSelected contents (contents (target_of old.encoder)) changes.works choice (created_at changes.created h.value) s
selects_all limits changes choice contents failures before after old s same encodes h = record {
  whole = created_right changes.created h.value h.taken.accepted.whole;
  within =
      subst (λ (l : Limits). FitsIn l (created_at changes.created h.value)) (sym (h.on.limits ∙ same))
      (created_fits limits changes.created h.value h.taken.accepted.within);
  held = h.held;
  encodes = h.on.more (contents (target_of old.encoder)) [] encodes;
}

-- so the selection may end
pub may_finish : {W : Type 0} (limits : Limits) (changes : Changes) (choice : Choice) (contents : W → Option (List ℕ))
    (failures : W → ℕ)
    (before after : Option (List ℕ)) (old s : Selecting W) → encoder_limits old.encoder ≡ limits
    → Encodes contents (contents (target_of old.encoder)) [] old.encoder
    → SelectsItems limits changes choice contents failures before after (Ok tt) old s → MayFinish contents s
may_finish limits changes choice contents failures before after old s same encodes h = record {
  start = contents (target_of old.encoder);
  works = changes.works;
  choice = choice;
  value = created_at changes.created h.value;
  all = selects_all limits changes choice contents failures before after old s same encodes h;
}

pub unfailed_still : {W : Type 0} (limits : Limits) (changes : Changes) (choice : Choice) (contents : W → Option (List ℕ))
    (failures : W → ℕ)
    (before after : Option (List ℕ)) (old s : Selecting W)
    → SelectsItems limits changes choice contents failures before after (Ok tt) old s → is_stopped s.encoder ≡ false
unfailed_still limits changes choice contents failures before after old s h = h.on.unfailed

pub selects_whole : {W : Type 0} (limits : Limits) (changes : Changes) (choice : Choice) (contents : W → Option (List ℕ))
    (failures : W → ℕ)
    (before after : Option (List ℕ)) (old s : Selecting W) (new : W) (result : Result SelectReport ToolFault)
    → encoder_limits old.encoder ≡ limits → Encodes contents (contents (target_of old.encoder)) [] old.encoder
    → SelectsItems limits changes choice contents failures before after (Ok tt) old s → Finishes contents s new result
    → Selects limits changes choice before after (contents (target_of old.encoder)) (contents new) result
selects_whole limits changes choice contents failures before after old s new result same encodes h f =
    by result (f (contents (target_of old.encoder)) changes.works choice (created_at changes.created h.value)
    (selects_all limits changes choice contents failures before after old s same encodes h))
  where
    by : (r : Result SelectReport ToolFault)
        → EndsSelection contents (contents (target_of old.encoder)) changes.works choice (created_at changes.created h.value) new r
        → Selects limits changes choice before after (contents (target_of old.encoder)) (contents new) r
    by (Ok report) e =
        record { value = h.value; taken = h.taken; written = e.1; reported = e.0 ∙ same_numbers changes.created choice h.value }
    by (Err (tool_faults.Writer n)) e = tt
    by (Err tool_faults.Reader) e = absurd e
    by (Err tool_faults.Memory) e = absurd e
    by (Err (tool_faults.Refused r)) e = absurd e
    by (Err (tool_faults.Truncated r)) e = absurd e
    by (Err tool_faults.Output) e = absurd e
    by (Err (tool_faults.Limit l)) e = absurd e

-- what is so of a text is so of the bytes that are known, which are that text
known_text : (o : Option (List ℕ)) (text : List ℕ) (P : List ℕ → Type 0) → IfSome o (λ bytes. bytes ≡ text) → P text → IfSome o P
known_text None text P e h = tt
known_text (Some bytes) text P e h = subst P (sym e) h

pub selects_stopped : {W : Type 0} (limits : Limits) (changes : Changes) (choice : Choice) (contents : W → Option (List ℕ))
    (failures : W → ℕ)
    (before after left right : Option (List ℕ)) (old s : Selecting W) (fault : ToolFault)
    → SelectsItems limits changes choice contents failures before after (Err fault) old s
    → Selects limits changes choice before after left right (Err fault)
selects_stopped limits changes choice contents failures before after left right old s tool_faults.Reader h = tt
selects_stopped limits changes choice contents failures before after left right old s tool_faults.Memory h = tt
selects_stopped limits changes choice contents failures before after left right old s (tool_faults.Writer n) h = tt
selects_stopped limits changes choice contents failures before after left right old s (tool_faults.Refused refusal) h =
    let told = refused_before limits refusal before after h.given h.stops in
    known_text before told.text (λ text. IsRefused limits text refusal) told.known told.items.0
selects_stopped limits changes choice contents failures before after left right old s (tool_faults.Truncated records) h =
    let told = truncated_before limits records before after h.given h.stops in
    known_text before told.text (λ text. IsTruncated limits text records) told.known told.items.0
selects_stopped limits changes choice contents failures before after left right old s tool_faults.Output h = absurd h
selects_stopped limits changes choice contents failures before after left right old s (tool_faults.Limit l) h = absurd h

-- and where the text is accepted, what is selected of it is written, unless a device or memory failed
pub selects_accepted : (limits : Limits) (changes : Changes) (choice : Choice) (before after old new : Option (List ℕ))
    (result : Result SelectReport ToolFault) → Selects limits changes choice before after old new result
    → SelectsAccepted limits changes choice before after old new result
selects_accepted limits changes choice None after old new result h = tt
selects_accepted limits changes choice (Some text) after old new result h = λ v n a. by result h v n a
  where
    by : (r : Result SelectReport ToolFault) → Selects limits changes choice (Some text) after old new r
        → (v : TransmissionValue) (n : ℕ)
        → IsAccepted limits text v n
        → MatchResult r (λ report. (report ≡ select_report choice v) × (after ≡ Some (drop n text))
        × Appends old new (sent_text changes choice v)) IsOfDevice
    by (Ok report) k v n a =
        let same = accepted_once limits text k.value v (length k.taken.input) n k.taken.front.0 a in (
          k.reported ∙ ap (select_report choice) same.0,
          k.taken.front.1 ∙ ap (λ (m : ℕ). Some (drop m text)) same.1,
          subst (λ (w : TransmissionValue). Appends old new (sent_text changes choice w)) same.0 k.written,
        )
    by (Err tool_faults.Reader) k v n a = tt
    by (Err tool_faults.Memory) k v n a = tt
    by (Err (tool_faults.Writer written)) k v n a = tt
    by (Err (tool_faults.Refused refusal)) k v n a = absurd (k.unaccepted v n a)
    by (Err (tool_faults.Truncated records)) k v n a = absurd (k.unaccepted v n a)
    by (Err tool_faults.Output) k v n a = absurd k
    by (Err (tool_faults.Limit limit)) k v n a = absurd k

-- the reader's failures stay where the end was reached
pub reader_still : {W : Type 0} (contents : W → Option (List ℕ)) (s : Selecting W) (new : W)
    (result : Result SelectReport ToolFault)
    (old now : ℕ) → MayFinish contents s → Finishes contents s new result → now ≡ old → CountsSplitReader result old now
reader_still contents s new result old now may f same = by result (f may.start may.works may.choice may.value may.all)
  where
    by : (r : Result SelectReport ToolFault) → EndsSelection contents may.start may.works may.choice may.value new r
        → CountsSplitReader r old now
    by (Ok report) e = same
    by (Err (tool_faults.Writer n)) e = same
    by (Err tool_faults.Reader) e = absurd e
    by (Err tool_faults.Memory) e = absurd e
    by (Err (tool_faults.Refused r)) e = absurd e
    by (Err (tool_faults.Truncated r)) e = absurd e
    by (Err tool_faults.Output) e = absurd e
    by (Err (tool_faults.Limit l)) e = absurd e
