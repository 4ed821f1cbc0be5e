-- A text is indexed line by line up to its end.
use Rattle.std.proofs.Common.{◌≡◌, ℕ, ◌+◌, ◌≤◌, ◌<◌, ◌^◌, Bool, true, false, List, [], ◌∷◌, ◌++◌, length, map, take, drop, Some}
use Rattle.std.proofs.Common.{refl, sym, ap, subst, ◌∙◌, arith, append-nil, true≢false}
use Rattle.std.specs.Prelude.{count_by}
use Rattle.std.specs.List.{AllByRecursion}
use Rattle.std.proofs.lemmas.List.{length-append, length-drop, length-map, length-take-le, take-take, map-append}
use Rattle.std.proofs.lemmas.List.{take-append-drop, drop_all, drop-drop}
use Rattle.cwr_fields.specs.declared.codes.TransactionType.TheVariants.{Acknowledgement}
use Rattle.cwr_fields.specs.declared.kinds.Kind.TheVariants.{Trl}
use Rattle.cwr_lines.specs.declared.lines.LineEnd.{LineEnd}
use Rattle.cwr_lines.specs.declared.lines.LineEnd.TheVariants.{Line}
use Rattle.cwr_lines.specs.Format.Records.{RecordValue}
use Rattle.cwr_lines.specs.Format.Lines.{without_cr}
use Rattle.cwr_lines.specs.Steps.Held.{HeldLine, held_text, text_by}
use Rattle.cwr_shape.specs.declared.symbols.Symbol.{Symbol}
use Rattle.cwr_shape.specs.declared.symbols.Symbol.TheVariants.{Plain}
use Rattle.cwr_shape.specs.declared.tallies.Counts.{Counts}
use Rattle.cwr_shape.specs.Format.Ranges.{LimitValues, AreInRange}
use Rattle.cwr_shape.specs.Format.AnyTransmission.{Any}
use Rattle.cwr_shape.specs.Format.Outlines.{Continues, IsWhole, IsWithin}
use Rattle.cwr_shape.specs.Format.LastSymbols.{is_grh}
use Rattle.cwr_shape.specs.Format.NextSymbols.{transactions_begun}
use Rattle.cwr_shape.specs.Steps.Tallies as tallies
use Rattle.cwr_shape.specs.Steps.Tallies.{TallyValue}
use Rattle.cwr_shape.proofs.lemmas.WithinByFronts.{along_fits}
use Rattle.cwr_values.specs.Format.Values.{TransmissionValue, FitsIn, symbol_of}
use Rattle.cwr_values.specs.Format.Rows.{records_of, rows}
use Rattle.cwr_values.specs.Format.Begins.{rows_so_far}
use Rattle.cwr_values.proofs.lemmas.OneTransmissionOfRecords.{built}
use Rattle.cwr_values.proofs.lemmas.RowAt.{rows_whole}
use Rattle.cwr_judge.specs.declared.refusals.Refusal.{Refusal}
use Rattle.cwr_judge.specs.Format.Ends.{IsAccepted}
use Rattle.cwr_judge.specs.Format.Items.{items, records_in, value_items}
use Rattle.cwr_judge.specs.Steps.Open.{items_so_far}
use Rattle.cwr_judge.proofs.lemmas.ItemLaws.{items_of_parts}
use Rattle.cwr_judge.proofs.lemmas.Trailers.{trailer_ends, whole_ends}
use Rattle.cwr_decode.specs.declared.endings.End.TheVariants as ends
use Rattle.cwr_decode.specs.Steps.Represents.{AreAccepted, IsInput, MayFollow, text_of}
use Rattle.cwr_decode.specs.Steps.TextLines.{AcceptsLine, FirstLine, RefusesLine}
use Rattle.cwr_decode.proofs.lemmas.AfterAcceptedLine.{is_line, reads_more}
use Rattle.cwr_decode.proofs.lemmas.ClosedTexts.{text_of-push}
use Rattle.cwr_decode.proofs.lemmas.WholeLinesAccepted.{accepts_whole}
use Rattle.cwr_decode.proofs.lemmas.WalkedText.{WalkedTo, line_at, walked_none, walked_refused, walked_truncated}
use Rattle.cwr_decode.specs.declared.indexing.IndexEntry.{IndexEntry}
use Rattle.cwr_decode.specs.Format.Entries.{AreEntriesOf, IndexesTo, IsEntryOf, carried}
use Rattle.cwr_decode.specs.Format.WholeLines.{IsLine, IsLineAfter}
use Rattle.cwr_decode.specs.Steps.TakenLines.{PutsAt}
use Rattle.cwr_decode.proofs.lemmas.CarriedLines.{carried_line, is_line as held_is_line}
use Rattle.cwr_decode.proofs.lemmas.CountedItems.{value_records_in}
use Rattle.cwr_decode.proofs.lemmas.EntriesPut.{put_more, rest_stays}
use Rattle.cwr_decode.proofs.lemmas.LineAfterLines.{all_push, comes_after, no_lines}
use Rattle.cwr_decode.proofs.lemmas.LinesAtFront.{front_is, line_within}

-- what was counted with a line
pub record IsCountedEntry (new : TallyValue) (used : ℕ) (body : List ℕ) (entry : IndexEntry) : Type 0 where
  pub at : entry.offset ≡ used
  pub within : entry.length ≤ length body
  pub value : take entry.length body ≡ without_cr body
  pub group : (xs : List Symbol) → tallies.IsTallyOf new xs → entry.group ≡ count_by is_grh xs
  pub transaction : (xs : List Symbol) → tallies.IsTallyOf new xs → entry.transaction ≡ transactions_begun Acknowledgement xs

-- a line that was accepted has its entry
entry_of : (limits : LimitValues) (text : List ℕ) (used taken : ℕ) (tally new : TallyValue) (line : HeldLine) (last : Bool)
    (entry : IndexEntry) (w : WalkedTo limits text used tally)
    → AllByRecursion IsLine w.lines → length w.lines ≡ length w.records → FirstLine (drop used text) taken line
    → (a : AcceptsLine tally (map symbol_of w.records) line last new) → IsCountedEntry new used line.bytes entry
    → IsEntryOf text (map symbol_of w.records) entry a.accepted
entry_of limits text used taken tally new line last entry w each as_many f a c =
    let xs : List Symbol = map symbol_of w.records in
    let ended : line.ended ≡ Line = is_line tally.limits xs line a.symbol a.accepted a.next f.ended in
    let rest : List ℕ = drop used text in
    let bytes : take (length line.bytes) rest ≡ line.bytes = front_is rest taken line f ended in
    let few : entry.length ≤ length line.bytes = c.within in
    let body : take entry.length line.bytes ≡ without_cr line.bytes = c.value in
    let same : xs ++ a.symbol ∷ [] ≡ xs ++ symbol_of a.accepted ∷ [] = ap (λ (s : Symbol). xs ++ s ∷ []) (sym a.next.symbol) in
    let here : take entry.length (drop entry.offset text) ≡ without_cr line.bytes =
    ap (λ (k : ℕ). take entry.length (drop k text)) c.at ∙ sym (take-take entry.length (length line.bytes) rest few)
    ∙ ap (take entry.length) bytes ∙ body in
    let carries : carried (without_cr line.bytes) ≡ Some a.accepted = carried_line line a.accepted ended a.next.carried in
    record {
      within = omega (arith, c.at, few, line_within rest taken line f, length-drop used text, w.within);
      is_line = subst (λ (n : ℕ). IsLineAfter text n entry.offset entry.length) (as_many ∙ sym (length-map w.records symbol_of))
          (comes_after text used taken entry.offset entry.length w.lines line w.input_ended w.within f ended w.late w.split each
          c.at here);
      carries = ap carried here ∙ carries;
      group = c.group (xs ++ a.symbol ∷ []) (a.stands) ∙ ap (count_by is_grh) same;
      transaction = c.transaction (xs ++ a.symbol ∷ []) (a.stands) ∙ ap (transactions_begun Acknowledgement) same;
    }

-- ---- the text is accepted

-- the records are those of the transmission with whose items they are handed out
same_records : (tally : TallyValue) (lines : List (List ℕ)) (records : List RecordValue) (v : TransmissionValue)
    → AreInRange tally.limits → AreAccepted tally lines records → IsWhole (map symbol_of records)
    → items_so_far records ≡ value_items v → records_of v ≡ records
same_records tally lines records v range read (groups, outline, symbols) given =
    let b = built groups records outline symbols read.in_order in
    let same : rows b.value ≡ rows_so_far records = rows_whole b.value b.whole ∙ ap rows_so_far b.records_are in
    let fits : FitsIn tally.limits b.value
    = subst (IsWithin tally.limits) (sym b.outline)
    (along_fits tally.limits groups outline (λ front rest e. read.within front rest (symbols ∙ e))) in
    let few : tally.limits.records < 10 ^ 8 = omega (arith, range.most_records) in
    let its : value_items b.value ≡ items_so_far records =
    sym (items_of_parts tally.limits b.value b.whole fits few) ∙ ap items same in
    sym (value_records_in v) ∙ ap records_in (sym given) ∙ ap records_in (sym its) ∙ value_records_in b.value ∙ b.records_are

nothing_more : (input_ended : Bool) → MayFollow input_ended []
nothing_more false = tt
nothing_more true = refl

pub indexed_accepted : (limits : LimitValues) (text : List ℕ) (used count : ℕ) (tally new : TallyValue) (line : HeldLine)
    (w : WalkedTo limits text used tally) → FirstLine (drop used text) count line
    → (a : AcceptsLine tally (map symbol_of w.records) line true new)
    → (v : TransmissionValue) × IsAccepted limits text v (used + count) × (records_of v ≡ w.records ++ a.accepted ∷ [])
indexed_accepted limits text used count tally new line w f a =
    let xs : List Symbol = map symbol_of w.records in
    let ends : line.ended ≡ Line = is_line tally.limits xs line a.symbol a.accepted a.next f.ended in
    let lines : List (List ℕ) = w.lines ++ line.bytes ∷ [] in
    let all : List RecordValue = w.records ++ a.accepted ∷ [] in
    let read : AreAccepted new lines all =
    reads_more tally new w.lines w.records line a.symbol a.accepted w.read f.held ends a.next a.limits a.stands in
    let texts : text_of w.lines ++ held_text line ≡ text_of lines =
    ap (λ (e : LineEnd). text_of w.lines ++ text_by e line.bytes) ends ∙ sym (text_of-push w.lines line.bytes) in
    let symbols : map symbol_of all ≡ xs ++ a.symbol ∷ [] =
    map-append symbol_of w.records (a.accepted ∷ []) ∙ ap (λ (s : Symbol). xs ++ s ∷ []) a.next.symbol in
    let l = line_at limits text used count tally line w f in
    let trailer : a.symbol ≡ Plain Trl = a.trailer.0 refl in
    let comes : Continues Any (xs ++ a.symbol ∷ []) = (a.next.may_come.0, a.next.may_come.1, tt, a.next.may_come.3) in
    let whole : IsWhole (map symbol_of all) =
    subst IsWhole (sym (symbols ∙ ap (λ (s : Symbol). xs ++ s ∷ []) trailer))
    (trailer_ends xs (subst (λ (s : Symbol). Continues Any (xs ++ s ∷ [])) trailer comes)) in
    let range : AreInRange new.limits = subst AreInRange (sym a.limits) w.in_range in
    let input : List ℕ = take (used + count) text in
    let tail : List ℕ = drop (used + count) text in
    let e = accepts_whole new lines all l.input_ended input text tail (items_so_far all) range read whole
    (subst (IsInput l.input_ended input) texts l.split) (sym (take-append-drop (used + count) text))
    (λ z. drop_all (used + count) text (omega (arith, l.late z))) refl [] (nothing_more l.input_ended) in
    let taken : length input ≡ used + count = length-take-le (used + count) text l.within in
    let accepted : IsAccepted new.limits text e.0 (used + count) =
    subst (IsAccepted new.limits text e.0) taken
    (subst (λ (x : List ℕ). IsAccepted new.limits x e.0 (length input)) (append-nil text) e.1) in (
      e.0,
      subst (λ (k : LimitValues). IsAccepted k text e.0 (used + count)) (a.limits ∙ w.limits_are) accepted,
      same_records new lines all e.0 range read whole e.2,
    )

-- ---- what was walked, and indexed

pub record IndexedTo (limits : LimitValues) (text : List ℕ) (used : ℕ) (tally : TallyValue)
    (before entries : List IndexEntry) : Type 0 where
  pub walked : WalkedTo limits text used tally
  pub each : AllByRecursion IsLine walked.lines
  pub as_many : length walked.lines ≡ length walked.records
  pub covered : AreEntriesOf text [] (take (length walked.records) entries) walked.records
  pub rest : drop (length walked.records) entries ≡ drop (length walked.records) before

pub indexed_none : (limits : LimitValues) (text : List ℕ) (tally : TallyValue) (entries : List IndexEntry) → tally.limits ≡ limits
    → AreInRange tally.limits → tallies.IsTallyOf tally [] → IndexedTo limits text 0 tally entries entries
unfolding AreEntriesOf
indexed_none limits text tally entries limits_are range stands =
    let w = walked_none limits text tally limits_are range stands in
    let none : length (map symbol_of w.records) ≡ 0 =
    ap (λ (c : Counts). c.records) (sym w.read.counted.counted ∙ stands.counted) in
    let zero : length w.records ≡ 0 = sym (length-map w.records symbol_of) ∙ none in
    let none_yet : w.lines ≡ [] = no_lines text w.lines w.input_ended w.split in
    record {
      walked = w;
      each = subst (AllByRecursion IsLine) (sym none_yet) tt;
      as_many = ap length none_yet ∙ sym zero;
      covered = subst (λ (n : ℕ). AreEntriesOf text [] (take n entries) w.records) (sym zero) tt;
      rest = refl;
    }

-- the accepted lines with one more
record OneMore (tally new : TallyValue) (lines : List (List ℕ)) (records : List RecordValue) (line : HeldLine)
    (accepted : RecordValue) (symbol : Symbol) : Type 0 where
  read : AreAccepted new (lines ++ line.bytes ∷ []) (records ++ accepted ∷ [])
  text : text_of lines ++ held_text line ≡ text_of (lines ++ line.bytes ∷ [])
  symbols : map symbol_of (records ++ accepted ∷ []) ≡ map symbol_of records ++ symbol ∷ []

one_more : (limits : LimitValues) (text : List ℕ) (used taken : ℕ) (tally new : TallyValue) (line : HeldLine) (last : Bool)
    (w : WalkedTo limits text used tally) → FirstLine (drop used text) taken line
    → (a : AcceptsLine tally (map symbol_of w.records) line last new)
    → OneMore tally new w.lines w.records line a.accepted a.symbol
one_more limits text used taken tally new line last w f a =
    let ends : line.ended ≡ Line = is_line tally.limits (map symbol_of w.records) line a.symbol a.accepted a.next f.ended in
    record {
      read = reads_more tally new w.lines w.records line a.symbol a.accepted w.read f.held ends a.next a.limits a.stands;
      text = ap (λ (e : LineEnd). text_of w.lines ++ text_by e line.bytes) ends ∙ sym (text_of-push w.lines line.bytes);
      symbols =
          map-append symbol_of w.records (a.accepted ∷ []) ∙ ap (λ (s : Symbol). map symbol_of w.records ++ s ∷ []) a.next.symbol;
    }

-- the entries with that of one more line
covered_more : (limits : LimitValues) (text : List ℕ) (used taken at : ℕ) (tally new : TallyValue) (line : HeldLine) (last : Bool)
    (before old entries : List IndexEntry) (entry : IndexEntry) (i : IndexedTo limits text used tally before old)
    → FirstLine (drop used text) taken line → (a : AcceptsLine tally (map symbol_of i.walked.records) line last new)
    → at ≡ length i.walked.records → IsCountedEntry new used line.bytes entry → PutsAt at entry old entries
    → AreEntriesOf text [] (take (at + 1) entries) (i.walked.records ++ a.accepted ∷ [])
covered_more limits text used taken at tally new line last before old entries entry i f a counted c p =
    put_more text at old entries i.walked.records entry a.accepted counted
    (subst (λ (k : ℕ). AreEntriesOf text [] (take k old) i.walked.records) (sym counted) i.covered)
    (entry_of limits text used taken tally new line last entry i.walked i.each i.as_many f a c) p

-- behind an entry more the room is as it was
rest_more : (at count : ℕ) (entry : IndexEntry) (before old entries : List IndexEntry) → at ≡ count → PutsAt at entry old entries
    → drop count old ≡ drop count before → drop (at + 1) entries ≡ drop (at + 1) before
rest_more at count entry before old entries e p h =
    let here : drop at old ≡ drop at before = subst (λ (k : ℕ). drop k old ≡ drop k before) (sym e) h in
    rest_stays at entry old entries p ∙ sym (drop-drop 1 at old) ∙ ap (drop 1) here ∙ drop-drop 1 at before

pub indexed_more : (limits : LimitValues) (text : List ℕ) (used taken at : ℕ) (tally new : TallyValue) (line : HeldLine)
    (before old entries : List IndexEntry) (entry : IndexEntry) (i : IndexedTo limits text used tally before old)
    → FirstLine (drop used text) taken line → AcceptsLine tally (map symbol_of i.walked.records) line false new
    → at ≡ length (map symbol_of i.walked.records) → IsCountedEntry new used line.bytes entry → PutsAt at entry old entries
    → IndexedTo limits text (used + taken) new before entries
indexed_more limits text used taken at tally new line before old entries entry i f a count c p =
    let w = i.walked in
    let counted : at ≡ length w.records = count ∙ length-map w.records symbol_of in
    let m = one_more limits text used taken tally new line false w f a in
    let l = line_at limits text used taken tally line w f in
    let all : at + 1 ≡ length (w.records ++ a.accepted ∷ []) =
    omega (arith, counted, length-append w.records (a.accepted ∷ [])) in
    record {
      walked = record {
        lines = w.lines ++ line.bytes ∷ [];
        records = w.records ++ a.accepted ∷ [];
        input_ended = l.input_ended;
        in_range = subst AreInRange (sym a.limits) w.in_range;
        limits_are = a.limits ∙ w.limits_are;
        read = m.read;
        left =
            λ whole. true≢false
            (sym (a.trailer.1 (whole_ends (map symbol_of w.records) a.symbol (subst IsWhole m.symbols whole))));
        within = l.within;
        late = l.late;
        split = subst (IsInput l.input_ended (take (used + taken) text)) m.text l.split;
      };
      each = all_push IsLine w.lines line.bytes i.each (held_is_line line f.held);
      as_many = omega (arith, i.as_many, length-append w.lines (line.bytes ∷ []), length-append w.records (a.accepted ∷ []));
      covered =
          subst (λ (k : ℕ). AreEntriesOf text [] (take k entries) (w.records ++ a.accepted ∷ [])) all
          (covered_more limits text used taken at tally new line false before old entries entry i f a counted c p);
      rest =
          subst (λ (k : ℕ). drop k entries ≡ drop k before) all
          (rest_more at (length w.records) entry before old entries counted p i.rest);
    }

-- ---- the end

pub ends_accepted : (limits : LimitValues) (text : List ℕ) (used taken at : ℕ) (tally new : TallyValue) (line : HeldLine)
    (before old entries : List IndexEntry) (entry : IndexEntry) (i : IndexedTo limits text used tally before old)
    → FirstLine (drop used text) taken line → AcceptsLine tally (map symbol_of i.walked.records) line true new
    → at ≡ length (map symbol_of i.walked.records) → IsCountedEntry new used line.bytes entry → PutsAt at entry old entries
    → IndexesTo limits text before entries (at + 1) (ends.Accepted (used + taken))
ends_accepted limits text used taken at tally new line before old entries entry i f a count c p =
    let w = i.walked in
    let counted : at ≡ length w.records = count ∙ length-map w.records symbol_of in
    record {
      records = w.records ++ a.accepted ∷ [];
      counted = omega (arith, counted, length-append w.records (a.accepted ∷ []));
      covered = covered_more limits text used taken at tally new line true before old entries entry i f a counted c p;
      rest = rest_more at (length w.records) entry before old entries counted p i.rest;
      ends = indexed_accepted limits text used taken tally new line w f a;
    }

pub ends_refused : (limits : LimitValues) (text : List ℕ) (used taken at : ℕ) (tally : TallyValue) (line : HeldLine)
    (before entries : List IndexEntry) (refusal : Refusal) (i : IndexedTo limits text used tally before entries)
    → FirstLine (drop used text) taken line → RefusesLine tally (map symbol_of i.walked.records) line refusal
    → at ≡ length (map symbol_of i.walked.records) → IndexesTo limits text before entries at (ends.Refused refusal)
ends_refused limits text used taken at tally line before entries refusal i f r count =
    let w = i.walked in
    let counted : at ≡ length w.records = count ∙ length-map w.records symbol_of in
    record {
      records = w.records;
      counted = counted;
      covered = subst (λ (k : ℕ). AreEntriesOf text [] (take k entries) w.records) (sym counted) i.covered;
      rest = subst (λ (k : ℕ). drop k entries ≡ drop k before) (sym counted) i.rest;
      ends = (
        walked_refused limits text used taken tally line refusal w f r,
        omega (arith, r.number, length-map w.records symbol_of),
      );
    }

pub ends_truncated : (limits : LimitValues) (text : List ℕ) (used at : ℕ) (tally : TallyValue) (before entries : List IndexEntry)
    (i : IndexedTo limits text used tally before entries) → drop used text ≡ []
    → at ≡ length (map symbol_of i.walked.records) → IndexesTo limits text before entries at (ends.Truncated at)
ends_truncated limits text used at tally before entries i nothing count =
    let w = i.walked in
    let counted : at ≡ length w.records = count ∙ length-map w.records symbol_of in
    record {
      records = w.records;
      counted = counted;
      covered = subst (λ (k : ℕ). AreEntriesOf text [] (take k entries) w.records) (sym counted) i.covered;
      rest = subst (λ (k : ℕ). drop k entries ≡ drop k before) (sym counted) i.rest;
      ends = (walked_truncated limits text used at tally w nothing count, counted);
    }
