-- The items that a run hands out before a fault are those that the first lines of its text give.
use Rattle.std.proofs.Common.{◌≡◌, ℕ, ◌-◌, ◌≤◌, Bool, true, false, cond, List, [], ◌∷◌, ◌++◌, length, drop, Option, Some, None}
use Rattle.std.proofs.Common.{refl, sym, ap, subst, ◌∙◌, arith, append-nil, true≢false}
use Rattle.std.proofs.Common.{inl, inr}
use Rattle.std.specs.Prelude.{IfSome, IsFalse, count_by, ◌⊎◌, ◌==◌, ◌||◌, bytes_eq}
use Rattle.std.specs.List.{AllByRecursion, list_any}
use Rattle.std.specs.Io.KnownBytes.{Consumes}
use Rattle.std.proofs.lemmas.List.{length-append}
use Rattle.cwr_lines.specs.declared.lines.LineEnd.{LineEnd}
use Rattle.cwr_lines.specs.declared.lines.LineEnd.TheVariants.{Open, Line, Over}
use Rattle.cwr_fields.specs.declared.kinds.Kind.{Kind}
use Rattle.cwr_fields.specs.declared.kinds.Kind.TheVariants as kinds
use Rattle.cwr_fields.proofs.lemmas.LineFeeds.{NoLf}
use Rattle.cwr_lines.specs.Format.Lines.{closed, is_lf, longest_line, raw_lines}
use Rattle.cwr_lines.specs.Format.Records.{RecordValue}
use Rattle.cwr_lines.specs.Steps.Held.{FillsLongest, held_text, text_by}
use Rattle.cwr_shape.specs.Format.Ranges.{AreInRange, LimitValues}
use Rattle.cwr_shape.specs.declared.limits.Limits.{Limits}
use Rattle.cwr_values.specs.declared.items.Item.{Item}
use Rattle.cwr_values.specs.Format.Begins.{rows_so_far}
use Rattle.cwr_values.proofs.lemmas.OneSpelling.{lines_without_lf}
use Rattle.cwr_values.proofs.lemmas.RowAt.{length-rows_so_far}
use Rattle.cwr_judge.specs.declared.refusals.Refusal.{Refusal}
use Rattle.cwr_judge.specs.Format.Ends.{IsRefused, IsTruncated}
use Rattle.cwr_judge.specs.Steps.Open.{Closes, item_of, items_so_far}
use Rattle.cwr_judge.specs.Format.Items.{AreFirstItems, is_transaction}
use Rattle.cwr_judge.proofs.lemmas.EndingRecord.{ends_closes}
use Rattle.cwr_judge.proofs.lemmas.LineRecords.{as_many}
use Rattle.cwr_decode.specs.declared.machine.State.{State}
use Rattle.cwr_decode.specs.declared.machine.State.TheVariants as states
use Rattle.cwr_decode.specs.declared.readings.ReadFault.{ReadFault}
use Rattle.cwr_decode.specs.declared.readings.ReadFault.TheVariants as read_faults
use Rattle.cwr_decode.specs.Steps.Machines.{Standing}
use Rattle.cwr_decode.specs.Steps.Readings.{IsSpent}
use Rattle.cwr_decode.specs.Steps.Calls.{IsLive}
use Rattle.cwr_decode.specs.Steps.Represents.{AreAccepted, EndsTooEarly, IsInput, IsPending, IsReading, IsStopped, IsThrough}
use Rattle.cwr_decode.specs.Steps.Represents.{MayFollow}
use Rattle.cwr_decode.specs.Steps.Represents.{RepresentsIn, text_of}
use Rattle.cwr_decode.specs.Steps.Runs.{HasRead}
use Rattle.cwr_decode.proofs.lemmas.BoundedInputs.{accepted_few}
use Rattle.cwr_decode.proofs.lemmas.ClosedTexts.{closed_open, closed_text}
use Rattle.cwr_decode.proofs.lemmas.CutTruncated.{cut_truncated}
use Rattle.cwr_decode.proofs.lemmas.RawLines.{raw_begins, raw_open}
use Rattle.cwr_decode.proofs.lemmas.StoppedRefused.{refused_line, refused_long}
use Rattle.cwr_tools.specs.declared.verdicts.ToolFault.{ToolFault}
use Rattle.cwr_tools.specs.declared.verdicts.ToolFault.TheVariants.{Reader, Memory, Refused, Truncated}
use Rattle.cwr_tools.specs.declared.verdicts.Verdict.TheVariants as verdicts
use Rattle.cwr_tools.specs.Format.Verdicts.{AreItemsOfLines}
use Rattle.cwr_tools.specs.Steps.Reports.{HasHandedOut}
use Rattle.cwr_tools.specs.Steps.Verdicts.{StopsAfter}
use Rattle.cwr_tools.proofs.lemmas.ToldTexts.{closed_begins, first_read, of_lines, verdict_after}
use Rattle.cwr_parts.specs.Format.Told.{AreHandedOut, AreItemsBefore, ComeBefore, HaveEnded, all_lines, ended_lines}

-- ---- how many lines have ended

lines_counted : (lines : List (List ℕ)) (bytes text : List ℕ) → text ≡ text_of lines ++ bytes → AllByRecursion NoLf lines
    → NoLf bytes → length lines ≡ length (raw_lines text)
lines_counted lines bytes text e none no_lf =
    let raw : raw_lines text ≡ lines =
    ap raw_lines e ∙ raw_begins lines bytes none ∙ ap (λ (more : List (List ℕ)). lines ++ more) (raw_open bytes no_lf)
    ∙ append-nil lines in
    ap length (sym raw)

have_ended : (finished : Bool) (text input rest : List ℕ) (lines : List (List ℕ)) (bytes : List ℕ)
    → IsInput finished input (text_of lines ++ bytes) → (finished ≡ true → rest ≡ []) → text ≡ input ++ rest
    → AllByRecursion NoLf lines → NoLf bytes → HaveEnded text input (length lines)
have_ended false text input rest lines bytes i spent parts none no_lf = inl (lines_counted lines bytes input i none no_lf)
have_ended true text input rest lines bytes i spent parts none no_lf = inr (
  lines_counted lines bytes (closed input) i none no_lf,
  sym (parts ∙ ap (λ (r : List ℕ). input ++ r) (spent refl) ∙ append-nil input),
)

no_bytes : NoLf []
no_bytes = refl

as_many_records : (d : Standing) (lines : List (List ℕ)) (records : List RecordValue) → AreAccepted d.tally lines records
    → length lines ≡ length records
as_many_records d lines records read =
    omega (arith, as_many (rows_so_far records) lines read.rows, length-rows_so_far records)

none_inside : (d : Standing) (lines : List (List ℕ)) (records : List RecordValue) → AreAccepted d.tally lines records
    → AllByRecursion NoLf lines
none_inside d lines records read = lines_without_lf (rows_so_far records) lines read.rows

whole_lines : (finished : Bool) (input : List ℕ) (lines : List (List ℕ)) → IsInput finished input (text_of lines)
    → IsInput finished input (text_of lines ++ [])
whole_lines finished input lines i = subst (IsInput finished input) (sym (append-nil (text_of lines))) i

-- ---- what a decoder handed out

-- the text is what was read and what follows that, of which there is nothing once the input has ended
record IsReadOf (d : Standing) (text input rest : List ℕ) : Type 0 where
  parts : text ≡ input ++ rest
  spent : d.finished ≡ true → rest ≡ []

-- all items of the lines that were accepted
of_accepted : (d : Standing) (text input rest : List ℕ) (lines : List (List ℕ)) (records : List RecordValue) (held : List ℕ)
    (all : List Item) → IsReadOf d text input rest → AreAccepted d.tally lines records
    → IsInput d.finished input (text_of lines ++ held) → all ≡ items_so_far records
    → AreItemsOfLines text (length records) all
of_accepted d text input rest lines records held all r read split e =
    let b = closed_begins d.finished input rest lines held split r.spent in
    of_lines d.tally lines records text b.0 all (length records) read (ap closed r.parts ∙ b.1) e refl

-- they were handed out, where those of the lines are these and perhaps one more
handed_accepted : (d : Standing) (text input rest : List ℕ) (lines : List (List ℕ)) (records : List RecordValue)
    (held : List ℕ) (given own : List Item) → IsReadOf d text input rest → AreAccepted d.tally lines records
    → IsInput d.finished input (text_of lines ++ held) → NoLf held → given ++ own ≡ items_so_far records → length own ≤ 1
    → count_by is_transaction own ≡ 0 → AreHandedOut text input given
handed_accepted d text input rest lines records held given own r read split no_lf e few none = record {
  count = length records;
  ended =
      subst (HaveEnded text input) (as_many_records d lines records read)
      (have_ended d.finished text input rest lines held split r.spent r.parts (none_inside d lines records read) no_lf);
  own = own;
  few = few;
  none = none;
  items = of_accepted d text input rest lines records held (given ++ own) r read split e;
}

handed_through : (d : Standing) (text input rest : List ℕ) (given : List Item) → IsReadOf d text input rest
    → IsThrough d input given → AreHandedOut text input given
handed_through d text input rest given r t =
    handed_accepted d text input rest t.lines t.records [] given [] r t.read (whole_lines d.finished input t.lines t.split)
    no_bytes (append-nil given ∙ t.given_are) (omega arith) refl

few_own : (kind : Kind) (r : RecordValue) → length (item_of kind r) ≤ 1
few_own kinds.Hdr r = omega arith
few_own kinds.Grh r = omega arith
few_own kinds.Grt r = omega arith
few_own kinds.Trl r = omega arith
few_own this_kind r = omega arith

no_own : (kind : Kind) (r : RecordValue) → count_by is_transaction (item_of kind r) ≡ 0
no_own kinds.Hdr r = refl
no_own kinds.Grh r = refl
no_own kinds.Grt r = refl
no_own kinds.Trl r = refl
no_own this_kind r = refl

-- where a record waits, its own item is still to come
handed_pending : (d : Standing) (text input rest : List ℕ) (given : List Item) → AreInRange d.tally.limits
    → IsReadOf d text input rest → IsPending d input given → AreHandedOut text input given
handed_pending d text input rest given range r p =
    let all : List RecordValue = p.records ++ p.last ∷ [] in
    let few : length p.records ≤ 99999999 =
    omega (arith, range.most_records, accepted_few d.tally p.lines all p.read, length-append p.records (p.last ∷ [])) in
    let closes : Closes p.records p.last =
    ends_closes p.records p.last p.read.in_order p.read.counted.stands.begins few p.ends in
    let own : List Item = item_of p.last.kind p.last in
    let whole : given ++ own ≡ items_so_far all = ap (λ (l : List Item). l ++ own) p.given_are ∙ sym closes.given in
    handed_accepted d text input rest p.lines all [] given own r p.read (whole_lines d.finished input p.lines p.split) no_bytes
    whole (few_own p.last.kind p.last) (no_own p.last.kind p.last)

-- a decoder of which more may come, or that has ended
handed_in : (state : State) (d : Standing) (text input rest : List ℕ) (given : List Item) → AreInRange d.tally.limits
    → IsReadOf d text input rest → IsLive state ⊎ (state ≡ states.Ended) → RepresentsIn state d input given
    → AreHandedOut text input given
handed_in states.Reading d text input rest given range r here s =
    handed_accepted d text input rest s.lines s.records d.line.bytes given [] r s.read s.split s.line.no_lf
    (append-nil given ∙ s.given_are) (omega arith) refl
handed_in states.Pending d text input rest given range r here p = handed_pending d text input rest given range r p
handed_in states.Ended d text input rest given range r here e = handed_through d text input rest given r e.through
handed_in (states.Refused refusal) d text input rest given range r (inl live) s = absurd (cc live)
handed_in (states.Refused refusal) d text input rest given range r (inr ended) s = absurd (cc ended)
handed_in (states.Truncated count) d text input rest given range r (inl live) s = absurd (cc live)
handed_in (states.Truncated count) d text input rest given range r (inr ended) s = absurd (cc ended)
handed_in states.Memory d text input rest given range r (inl live) s = absurd (cc live)
handed_in states.Memory d text input rest given range r (inr ended) s = absurd (cc ended)

-- ---- the text: that of the reader, where it is known, and else what was read

come_before : (limits : Limits) (fault : ToolFault) (d : Standing) (before after : Option (List ℕ)) (given : List Item)
    → (h : HasRead limits d before after given)
    → ((text rest : List ℕ) → IsReadOf d text h.input rest → AreItemsBefore limits fault text h.input given)
    → ComeBefore limits fault before after given
come_before limits fault d before after given h f = at before after h.consumed h.spent
  where
    first : AreFirstItems limits given
    first = first_read limits d before after given h

    at : (had left : Option (List ℕ)) → Consumes had left h.input → IfSome had (λ _. IsSpent d left)
        → ComeBefore limits fault had left given
    at None left c spent =
        let whole : h.input ≡ h.input ++ [] = sym (append-nil h.input) in
        record {
          first = first;
          text = h.input;
          known = tt;
          read = h.input;
          rest = [];
          begins = whole;
          lost = tt;
          items = f h.input [] (record { parts = whole; spent = λ _. refl });
        }
    at (Some text) None c spent = absurd c
    at (Some text) (Some rest) c spent = record {
      first = first;
      text = text;
      known = refl;
      read = h.input;
      rest = rest;
      begins = c;
      lost = c;
      items = f text rest (record { parts = c; spent = spent });
    }

-- ---- before a fault

-- it says no more of the items than that they were handed out
abbrev pub IsAnywhere : Limits → ToolFault → Type 0
IsAnywhere limits fault =
    (text read : List ℕ) (given : List Item) → AreHandedOut text read given → AreItemsBefore limits fault text read given

pub handed_before : (limits : Limits) (fault : ToolFault) (before after : Option (List ℕ)) (given : List Item)
    → HasHandedOut limits before after given → IsAnywhere limits fault → ComeBefore limits fault before after given
handed_before limits fault before after given h f =
    let d : Standing = h.0 in
    let here : IsLive d.state ⊎ (d.state ≡ states.Ended) = elim h.1.here [ inl live ↦ inl live | inr ended ↦ inr ended.0 ] in
    come_before limits fault d before after given h.1.read (λ text rest r. f text h.1.read.input given
    (handed_in d.state d text h.1.read.input rest given h.1.read.stands.in_range r here h.1.read.stands.here))

-- what a decoder that stopped had read
stopped_read : (limits : Limits) (fault : ReadFault) (before after : Option (List ℕ)) (given : List Item)
    → (t : StopsAfter limits fault before after given) → HasRead limits t.0.decoder before after given
stopped_read limits fault before after given t = subst (HasRead limits t.0.decoder before after) t.1 t.0.read

pub reader_before : (limits : Limits) (before after : Option (List ℕ)) (given : List Item)
    → StopsAfter limits read_faults.Reader before after given → ComeBefore limits Reader before after given
reader_before limits before after given t =
    let d : Standing = t.0.decoder in
    let h : HasRead limits d before after given = stopped_read limits read_faults.Reader before after given t in
    let s : IsReading d h.input given =
    subst (λ (q : State). RepresentsIn q d h.input given) t.0.leaves h.stands.here in
    let split : h.input ≡ text_of s.lines ++ d.line.bytes =
    subst (λ (b : Bool). IsInput b h.input (text_of s.lines ++ d.line.bytes)) (t.0.fresh refl) s.split in
    let many : length s.records ≡ ended_lines h.input =
    sym (as_many_records d s.lines s.records s.read)
    ∙ lines_counted s.lines d.line.bytes h.input split (none_inside d s.lines s.records s.read) s.line.no_lf in
    come_before limits Reader d before after given h (λ text rest r. subst (λ (n : ℕ). AreItemsOfLines text n given) many
    (of_accepted d text h.input rest s.lines s.records d.line.bytes given r s.read s.split s.given_are))

closed_lines : (finished : Bool) (input : List ℕ) (lines : List (List ℕ)) → IsInput finished input (text_of lines)
    → closed input ≡ text_of lines ++ []
closed_lines false input lines i = ap closed i ∙ closed_text lines ∙ sym (append-nil (text_of lines))
closed_lines true input lines i = i ∙ sym (append-nil (text_of lines))

pub memory_before : (limits : Limits) (before after : Option (List ℕ)) (given : List Item)
    → StopsAfter limits read_faults.Memory before after given → ComeBefore limits Memory before after given
memory_before limits before after given t =
    let d : Standing = t.0.decoder in
    let h : HasRead limits d before after given = stopped_read limits read_faults.Memory before after given t in
    let s : IsThrough d h.input given =
    (subst (λ (q : State). RepresentsIn q d h.input given) t.0.leaves h.stands.here).through in
    let many : length s.records ≡ all_lines h.input =
    sym (as_many_records d s.lines s.records s.read)
    ∙ lines_counted s.lines [] (closed h.input) (closed_lines d.finished h.input s.lines s.split)
    (none_inside d s.lines s.records s.read) no_bytes in
    come_before limits Memory d before after given h (λ text rest r. subst (λ (n : ℕ). AreItemsOfLines text n given) many
    (of_accepted d text h.input rest s.lines s.records [] given r s.read (whole_lines d.finished h.input s.lines s.split)
    s.given_are))

-- ---- a text that is refused

closed_twice : (text : List ℕ) → closed (closed text) ≡ closed text
closed_twice text = by (bytes_eq (drop (length text - 1) text) (10 ∷ []) || (length text == 0)) refl
  where
    by : (b : Bool) → (bytes_eq (drop (length text - 1) text) (10 ∷ []) || (length text == 0)) ≡ b
        → closed (cond b text (text ++ 10 ∷ [])) ≡ cond b text (text ++ 10 ∷ [])
    by true e = ap (λ (b : Bool). cond b text (text ++ 10 ∷ [])) e
    by false e =
        let nil = append-nil (text ++ 10 ∷ []) in ap closed (sym nil) ∙ closed_text (text ∷ []) ∙ nil

-- a line that is too long doesn't end with the input
none_too_long : (input bytes : List ℕ) (lines : List (List ℕ)) → closed input ≡ text_of lines ++ bytes
    → IsFalse (list_any is_lf bytes) → length bytes ≡ longest_line → ⊥
none_too_long input bytes lines e no_lf full =
    let twice : closed (text_of lines ++ bytes) ≡ text_of lines ++ bytes = ap closed (sym e) ∙ closed_twice input ∙ e in
    let longer : text_of lines ++ bytes ≡ text_of lines ++ (bytes ++ 10 ∷ []) =
    sym twice ∙ closed_open lines bytes no_lf (omega (arith, full)) in
    omega (
      arith,
      ap length longer,
      length-append (text_of lines) bytes,
      length-append (text_of lines) (bytes ++ 10 ∷ []),
      length-append bytes (10 ∷ []),
    )

-- some text begins with what was read, and is refused so
record IsRefusedSo (limits : LimitValues) (input : List ℕ) (given : List Item) (refusal : Refusal) : Type 0 where
  text : List ℕ
  rest : List ℕ
  begins : text ≡ input ++ rest
  refused : IsRefused limits text refusal
  items : AreItemsOfLines text (refusal.rec - 1) given

refused_so : (d : Standing) (input : List ℕ) (given : List Item) (refusal : Refusal) → IsStopped d input given refusal
    → IsRefusedSo d.tally.limits input given refusal
refused_so d input given refusal s = by s.line.ended refl s.input_ended refl
  where
    with_rest : (rest : List ℕ) → (s.input_ended ≡ true → rest ≡ []) → IsRefused d.tally.limits (input ++ rest) refusal
        → IsRefusedSo d.tally.limits input given refusal
    with_rest rest none refused =
        let b = closed_begins s.input_ended input rest s.lines (held_text s.line) s.split none in
        record {
          text = input ++ rest;
          rest = rest;
          begins = refl;
          refused = refused;
          items =
              of_lines d.tally s.lines s.records (input ++ rest) b.0 given (refusal.rec - 1) s.read b.1 s.given_are
              (omega (arith, s.number));
        }

    nothing_follows : (b : Bool) → MayFollow b []
    nothing_follows true = refl
    nothing_follows false = tt

    by : (e : LineEnd) → s.line.ended ≡ e → (b : Bool) → s.input_ended ≡ b → IsRefusedSo d.tally.limits input given refusal
    by Open e b i = absurd (s.ended e)
    by Line e b i =
        with_rest [] (λ _. refl) (refused_line d input given refusal [] s e (nothing_follows s.input_ended))
    by Over e false i =
        with_rest (0 ∷ []) (λ ended. absurd (true≢false (sym ended ∙ i)))
        (refused_long d input given refusal 0 [] s e i (λ q. absurd (omega (arith, q))))
    by Over e true i =
        let split : closed input ≡ text_of s.lines ++ s.line.bytes =
        subst (λ (q : LineEnd). closed input ≡ text_of s.lines ++ text_by q s.line.bytes) e
        (subst (λ (q : Bool). IsInput q input (text_of s.lines ++ held_text s.line)) i s.split) in
        absurd (none_too_long input s.line.bytes s.lines split s.is_held.no_lf
        (subst (λ (q : LineEnd). FillsLongest q (length s.line.bytes)) e s.is_held.full))

-- it is the reader's, where that is known
pub refused_before : (limits : Limits) (refusal : Refusal) (before after : Option (List ℕ)) (given : List Item)
    → StopsAfter limits (read_faults.Refused refusal) before after given
    → ComeBefore limits (Refused refusal) before after given
refused_before limits refusal (Some text) None given t = absurd t.0.read.consumed
refused_before limits refusal (Some text) (Some rest) given t =
    let h : HasRead limits t.0.decoder (Some text) (Some rest) given = stopped_read limits _ (Some text) (Some rest) given t in
    record {
      first = first_read limits t.0.decoder (Some text) (Some rest) given h;
      text = text;
      known = refl;
      read = h.input;
      rest = rest;
      begins = h.consumed;
      lost = h.consumed;
      items = verdict_after limits text (verdicts.Refused refusal) (Some rest) given t;
    }
refused_before limits refusal None after given t =
    let d : Standing = t.0.decoder in
    let s : IsStopped d t.0.read.input t.0.given refusal =
    subst (λ (q : State). RepresentsIn q d t.0.read.input t.0.given) t.0.leaves t.0.read.stands.here in
    let so = refused_so d t.0.read.input t.0.given refusal s in
    record {
      first = first_read limits d None after given (stopped_read limits _ None after given t);
      text = so.text;
      known = tt;
      read = t.0.read.input;
      rest = so.rest;
      begins = so.begins;
      lost = tt;
      items = (
        subst (λ (l : LimitValues). IsRefused l so.text refusal) t.0.read.limits_are so.refused,
        subst (AreItemsOfLines so.text (refusal.rec - 1)) t.1 so.items,
      );
    }

-- ---- a text that ends too early

pub truncated_before : (limits : Limits) (records : ℕ) (before after : Option (List ℕ)) (given : List Item)
    → StopsAfter limits (read_faults.Truncated records) before after given
    → ComeBefore limits (Truncated records) before after given
truncated_before limits records (Some text) None given t = absurd t.0.read.consumed
truncated_before limits records (Some text) (Some rest) given t =
    let h : HasRead limits t.0.decoder (Some text) (Some rest) given = stopped_read limits _ (Some text) (Some rest) given t in
    record {
      first = first_read limits t.0.decoder (Some text) (Some rest) given h;
      text = text;
      known = refl;
      read = h.input;
      rest = rest;
      begins = h.consumed;
      lost = h.consumed;
      items = verdict_after limits text (verdicts.Truncated records) (Some rest) given t;
    }
truncated_before limits records None after given t =
    let d : Standing = t.0.decoder in
    let input : List ℕ = t.0.read.input in
    let s : EndsTooEarly d input t.0.given records =
    subst (λ (q : State). RepresentsIn q d input t.0.given) t.0.leaves t.0.read.stands.here in
    let all =
    of_accepted d input input [] s.through.lines s.through.records [] t.0.given
    (record { parts = sym (append-nil input); spent = λ _. refl }) s.through.read
    (whole_lines d.finished input s.through.lines s.through.split) s.through.given_are in
    record {
      first = first_read limits d None after given (stopped_read limits _ None after given t);
      text = input;
      known = tt;
      read = input;
      rest = [];
      begins = sym (append-nil input);
      lost = tt;
      items = (
        subst (λ (l : LimitValues). IsTruncated l input records) t.0.read.limits_are
            (cut_truncated d input t.0.given records s),
        subst (AreItemsOfLines input records) t.1
            (subst (λ (n : ℕ). AreItemsOfLines input n t.0.given) (sym s.counted) all),
      );
    }
