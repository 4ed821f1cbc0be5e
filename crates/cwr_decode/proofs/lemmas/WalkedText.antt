-- A text is walked line by line up to its end: what each line does to what was walked, and what ends the walk.
use Rattle.std.proofs.Common.{◌≡◌, ◌≢◌, ℕ, zero, suc, ◌+◌, ◌-◌, ◌<◌, ◌≤◌, Bool, true, false, List, [], ◌∷◌, ◌++◌, length, map}
use Rattle.std.proofs.Common.{take, drop, refl, sym, ap, ap₂, subst, ◌∙◌, arith, append-nil, inl, inr, true≢false}
use Rattle.std.specs.Prelude.{◌⊎◌, None, slice_index}
use Rattle.std.proofs.Math.Seq.{take-add, take-length}
use Rattle.std.proofs.lemmas.List.{length-drop, length-map, length-take-le, take_all, drop-drop, drop_all, map-append}
use Rattle.std.proofs.lemmas.List.{take-append-drop}
use Rattle.cwr_fields.specs.declared.kinds.Kind.TheVariants.{Trl}
use Rattle.cwr_lines.specs.declared.lines.LineEnd.{LineEnd}
use Rattle.cwr_lines.specs.declared.lines.LineEnd.TheVariants.{Open, Line, Over}
use Rattle.cwr_lines.specs.Format.Records.{RecordValue}
use Rattle.cwr_lines.specs.Format.Lines.{closed}
use Rattle.cwr_lines.specs.Steps.Held.{HeldLine, Stops, empty_line, held_text, text_by}
use Rattle.cwr_shape.specs.declared.symbols.Symbol.{Symbol}
use Rattle.cwr_shape.specs.declared.symbols.Symbol.TheVariants.{Plain}
use Rattle.cwr_shape.specs.Format.Ranges.{LimitValues, AreInRange}
use Rattle.cwr_shape.specs.Format.AnyTransmission.{Any}
use Rattle.cwr_shape.specs.Format.Outlines.{Continues, IsWhole}
use Rattle.cwr_shape.specs.Steps.Tallies as tallies
use Rattle.cwr_shape.specs.Steps.Tallies.{TallyValue}
use Rattle.cwr_values.specs.Format.Values.{TransmissionValue, symbol_of}
use Rattle.cwr_judge.specs.declared.refusals.Refusal.{Refusal}
use Rattle.cwr_judge.specs.Format.Ends.{IsAccepted, IsRefused, IsTruncated}
use Rattle.cwr_judge.specs.Steps.Open.{items_so_far, open_of}
use Rattle.cwr_judge.proofs.lemmas.Trailers.{trailer_ends, whole_ends}
use Rattle.cwr_decode.specs.declared.machine.State.TheVariants as states
use Rattle.cwr_decode.specs.Steps.Machines.{Standing, at_start, held_of}
use Rattle.cwr_decode.specs.Steps.Represents.{AreAccepted, IsInput, IsStopped, MayFollow, text_of}
use Rattle.cwr_decode.specs.Steps.TextLines.{AcceptsLine, FirstLine, IsCutOff, IsLastLine, RefusesLine}
use Rattle.cwr_decode.proofs.lemmas.CutTruncated.{cut_truncated}
use Rattle.cwr_decode.proofs.lemmas.WholeLinesAccepted.{accepts_whole}
use Rattle.cwr_decode.proofs.lemmas.NothingRead.{nothing_read}
use Rattle.cwr_decode.proofs.lemmas.AfterAcceptedLine.{is_line, reads_more}
use Rattle.cwr_decode.proofs.lemmas.StoppedRefused.{refused_line, refused_long}
use Rattle.cwr_decode.proofs.lemmas.ClosedTexts.{closed_open, closed_text, text_of-push}

-- so many bytes of the text are the lines of records with which a transmission within the limits begins, and not a whole one
pub record WalkedTo (limits : LimitValues) (text : List ℕ) (used : ℕ) (tally : TallyValue) : Type 0 where
  pub lines : List (List ℕ)
  pub records : List RecordValue
  pub input_ended : Bool
  pub in_range : AreInRange tally.limits
  pub limits_are : tally.limits ≡ limits
  pub read : AreAccepted tally lines records
  pub left : ¬ IsWhole (map symbol_of records)
  pub within : used ≤ length text
  pub late : input_ended ≡ true → used ≡ length text
  pub split : IsInput input_ended (take used text) (text_of lines)

pub walked_none : (limits : LimitValues) (text : List ℕ) (tally : TallyValue) → tally.limits ≡ limits → AreInRange tally.limits
    → tallies.IsTallyOf tally [] → WalkedTo limits text 0 tally
walked_none limits text tally limits_are range stands =
    let r = (nothing_read (at_start tally) range stands refl).here in
    record {
      lines = r.lines;
      records = r.records;
      input_ended = false;
      in_range = range;
      limits_are = limits_are;
      read = r.read;
      left = r.left;
      within = omega arith;
      late = λ e. absurd (true≢false (sym e));
      split = r.split ∙ append-nil (text_of r.lines);
    }

-- the rest of the text, as a slice has it
pub all_left : (used : ℕ) (text : List ℕ) → take (length text - used) (drop used text) ≡ drop used text
all_left used text = take_all (length text - used) (drop used text) (omega (arith, length-drop used text))

-- ---- one line more

-- a byte that is no line feed comes next
record GoesFurther (text : List ℕ) (used : ℕ) : Type 0 where
  next : ℕ
  rest : List ℕ
  split : drop used text ≡ next ∷ rest
  other : next ≢ 10

-- the next line of the text, which ends with the text or before that
pub record LineAt (text : List ℕ) (used : ℕ) (lines : List (List ℕ)) (line : HeldLine) : Type 0 where
  pub input_ended : Bool
  pub within : used ≤ length text
  pub late : input_ended ≡ true → used ≡ length text
  pub split : IsInput input_ended (take used text) (text_of lines ++ held_text line)
  further : line.ended ≡ Over → GoesFurther text used
  early : line.ended ≡ Over → input_ended ≡ false

first_of : (used : ℕ) (piece : List ℕ) → used < length piece → (rest : List ℕ) × (drop used piece ≡ slice_index piece used ∷ rest)
first_of used [] h = absurd (omega (arith, h))
first_of zero (b ∷ piece) h = (piece, refl)
first_of (suc used) (b ∷ piece) h = first_of used piece (omega (arith, h))

pub line_at : (limits : LimitValues) (text : List ℕ) (used count : ℕ) (tally : TallyValue) (line : HeldLine)
    (w : WalkedTo limits text used tally) → FirstLine (drop used text) count line
    → LineAt text (used + count) w.lines line
line_at limits text used count tally line w f = by w.input_ended w.late w.split f.taken
  where
    inside : used + count ≤ length text
    inside = omega (arith, f.within, length-drop used text, w.within)

    cut_off : take used text ≡ text_of w.lines → IsCutOff (drop used text) count line → LineAt text (used + count) w.lines line
    cut_off split c = record {
      input_ended = false;
      within = inside;
      late = λ e. absurd (true≢false (sym e));
      split = take-add used count text ∙ ap₂ (λ (x y : List ℕ). x ++ y) split (sym c.text_is);
      further = λ e.
          let stops = subst (λ (x : LineEnd). Stops x (drop used text) count) e c.stops in
          let next = first_of count (drop used text) stops.0 in
          record {
            next = slice_index (drop used text) count;
            rest = next.0;
            split = sym (drop-drop count used text) ∙ next.1;
            other = stops.1;
          };
      early = λ e. refl;
    }

    last : take used text ≡ text_of w.lines → IsLastLine (drop used text) count line → LineAt text (used + count) w.lines line
    last split l =
        let all : used + count ≡ length text = omega (arith, l.all, length-drop used text, w.within) in
        let whole : take (used + count) text ≡ text_of w.lines ++ line.bytes =
        ap (λ (n : ℕ). take n text) all ∙ take-length text ∙ sym (take-append-drop used text)
        ∙ ap₂ (λ (x y : List ℕ). x ++ y) split (sym l.bytes) in
        let some : 0 < length line.bytes = omega (arith, f.some, l.all, ap length l.bytes) in
        record {
          input_ended = true;
          within = inside;
          late = λ e. all;
          split =
              ap closed whole ∙ closed_open w.lines line.bytes f.held.no_lf some
              ∙ ap (λ (e : LineEnd). text_of w.lines ++ text_by e line.bytes) (sym l.ends);
          further = λ e. absurd (no (sym l.ends ∙ e));
          early = λ e. absurd (no (sym l.ends ∙ e));
        }
      where
        no : Line ≡ Over → ⊥
        no e = cc e

    by : (b : Bool) → (b ≡ true → used ≡ length text) → IsInput b (take used text) (text_of w.lines)
        → IsCutOff (drop used text) count line ⊎ IsLastLine (drop used text) count line
        → LineAt text (used + count) w.lines line
    by true late split t = absurd (omega (arith, late refl, f.within, f.some, length-drop used text))
    by false late split (inl c) = cut_off split c
    by false late split (inr l) = last split l

-- ---- it is accepted

-- the accepted lines with that one
record OneMore (limits : LimitValues) (tally new : TallyValue) (lines : List (List ℕ)) (records : List RecordValue)
    (line : HeldLine) (accepted : RecordValue) (symbol : Symbol) : Type 0 where
  read : AreAccepted new (lines ++ line.bytes ∷ []) (records ++ accepted ∷ [])
  text : text_of lines ++ held_text line ≡ text_of (lines ++ line.bytes ∷ [])
  symbols : map symbol_of (records ++ accepted ∷ []) ≡ map symbol_of records ++ symbol ∷ []

one_more : (limits : LimitValues) (text : List ℕ) (used count : ℕ) (tally new : TallyValue) (line : HeldLine) (last : Bool)
    (w : WalkedTo limits text used tally) → FirstLine (drop used text) count line
    → (a : AcceptsLine tally (map symbol_of w.records) line last new)
    → OneMore limits tally new w.lines w.records line a.accepted a.symbol
one_more limits text used count tally new line last w f a =
    let ends : line.ended ≡ Line = is_line tally.limits (map symbol_of w.records) line a.symbol a.accepted a.next f.ended in
    record {
      read = reads_more tally new w.lines w.records line a.symbol a.accepted w.read f.held ends a.next a.limits a.stands;
      text = ap (λ (e : LineEnd). text_of w.lines ++ text_by e line.bytes) ends ∙ sym (text_of-push w.lines line.bytes);
      symbols =
          map-append symbol_of w.records (a.accepted ∷ []) ∙ ap (λ (s : Symbol). map symbol_of w.records ++ s ∷ []) a.next.symbol;
    }

pub walked_more : (limits : LimitValues) (text : List ℕ) (used count : ℕ) (tally new : TallyValue) (line : HeldLine)
    (w : WalkedTo limits text used tally) → FirstLine (drop used text) count line
    → AcceptsLine tally (map symbol_of w.records) line false new → WalkedTo limits text (used + count) new
walked_more limits text used count tally new line w f a =
    let m = one_more limits text used count tally new line false w f a in
    let l = line_at limits text used count tally line w f in
    record {
      lines = w.lines ++ line.bytes ∷ [];
      records = w.records ++ a.accepted ∷ [];
      input_ended = l.input_ended;
      in_range = subst AreInRange (sym a.limits) w.in_range;
      limits_are = a.limits ∙ w.limits_are;
      read = m.read;
      left =
          λ whole. true≢false (sym (a.trailer.1 (whole_ends (map symbol_of w.records) a.symbol (subst IsWhole m.symbols whole))));
      within = l.within;
      late = l.late;
      split = subst (IsInput l.input_ended (take (used + count) text)) m.text l.split;
    }

nothing_more : (input_ended : Bool) → MayFollow input_ended []
nothing_more false = tt
nothing_more true = refl

pub walked_accepted : (limits : LimitValues) (text : List ℕ) (used count : ℕ) (tally new : TallyValue) (line : HeldLine)
    (w : WalkedTo limits text used tally) → FirstLine (drop used text) count line
    → AcceptsLine tally (map symbol_of w.records) line true new
    → (v : TransmissionValue) × IsAccepted limits text v (used + count)
walked_accepted limits text used count tally new line w f a =
    let xs : List Symbol = map symbol_of w.records in
    let m = one_more limits text used count tally new line true w f a in
    let l = line_at limits text used count tally line w f in
    let all : List RecordValue = w.records ++ a.accepted ∷ [] in
    let trailer : a.symbol ≡ Plain Trl = a.trailer.0 refl in
    let comes : Continues Any (xs ++ a.symbol ∷ []) = (a.next.may_come.0, a.next.may_come.1, tt, a.next.may_come.3) in
    let whole : IsWhole (map symbol_of all) =
    subst IsWhole (sym (m.symbols ∙ ap (λ (s : Symbol). xs ++ s ∷ []) trailer))
    (trailer_ends xs (subst (λ (s : Symbol). Continues Any (xs ++ s ∷ [])) trailer comes)) in
    let input : List ℕ = take (used + count) text in
    let tail : List ℕ = drop (used + count) text in
    let e =
    accepts_whole new (w.lines ++ line.bytes ∷ []) all l.input_ended input text tail (items_so_far all)
    (subst AreInRange (sym a.limits) w.in_range) m.read whole
    (subst (IsInput l.input_ended input) m.text l.split) (sym (take-append-drop (used + count) text))
    (λ z. drop_all (used + count) text (omega (arith, l.late z))) refl [] (nothing_more l.input_ended) in
    let taken : length input ≡ used + count = length-take-le (used + count) text l.within in
    let accepted : IsAccepted new.limits text e.0 (used + count) =
    subst (IsAccepted new.limits text e.0) taken
    (subst (λ (x : List ℕ). IsAccepted new.limits x e.0 (length input)) (append-nil text) e.1) in
    (e.0, subst (λ (k : LimitValues). IsAccepted k text e.0 (used + count)) (a.limits ∙ w.limits_are) accepted)

-- ---- it is refused

pub walked_refused : (limits : LimitValues) (text : List ℕ) (used count : ℕ) (tally : TallyValue) (line : HeldLine)
    (refusal : Refusal) (w : WalkedTo limits text used tally) → FirstLine (drop used text) count line
    → RefusesLine tally (map symbol_of w.records) line refusal → IsRefused limits text refusal
walked_refused limits text used count tally line refusal w f r =
    subst (λ (k : LimitValues). IsRefused k text refusal) w.limits_are (by line.ended refl)
  where
    l : LineAt text (used + count) w.lines line
    l = line_at limits text used count tally line w f

    input : List ℕ
    input = take (used + count) text

    d : Standing
    d = record { line = empty_line; tally = tally; held = held_of (open_of w.records); state = states.Refused refusal; finished = l.input_ended }

    stopped : IsStopped d input (items_so_far w.records) refusal
    stopped = record {
      lines = w.lines;
      records = w.records;
      read = w.read;
      left = w.left;
      line = line;
      ended = f.ended;
      is_held = f.held;
      input_ended = l.input_ended;
      late = λ e. e;
      split = l.split;
      none = r.none;
      first = r.first;
      number = omega (arith, r.number, length-map w.records symbol_of);
      level = r.level;
      empty = refl;
      held = refl;
      given_are = refl;
    }

    follows : (b : Bool) → (b ≡ true → used + count ≡ length text) → MayFollow b (drop (used + count) text)
    follows false late = tt
    follows true late = drop_all (used + count) text (omega (arith, late refl))

    whole : input ++ drop (used + count) text ≡ text
    whole = take-append-drop (used + count) text

    by : (e : LineEnd) → line.ended ≡ e → IsRefused tally.limits text refusal
    by Open q = absurd (f.ended q)
    by Line q =
        subst (λ (x : List ℕ). IsRefused tally.limits x refusal) whole (refused_line d input (items_so_far w.records) refusal
        (drop (used + count) text) stopped q (follows l.input_ended l.late))
    by Over q =
        let g = l.further q in
        subst (λ (x : List ℕ). IsRefused tally.limits x refusal) (ap (λ (x : List ℕ). input ++ x) (sym g.split) ∙ whole)
        (refused_long d input (items_so_far w.records) refusal g.next g.rest stopped q (l.early q) g.other)

-- ---- the text ends

pub walked_truncated : (limits : LimitValues) (text : List ℕ) (used count : ℕ) (tally : TallyValue)
    (w : WalkedTo limits text used tally) → drop used text ≡ [] → count ≡ length (map symbol_of w.records)
    → IsTruncated limits text count
walked_truncated limits text used count tally w nothing counted =
    subst (λ (k : LimitValues). IsTruncated k text count) w.limits_are
    (cut_truncated d text (items_so_far w.records) count (record {
      through =
          record {
            lines = w.lines;
            records = w.records;
            read = w.read;
            split = by w.input_ended (subst (λ (x : List ℕ). IsInput w.input_ended x (text_of w.lines)) whole w.split);
            empty = refl;
            nothing = refl;
            given_are = refl;
          };
      input_ended = refl;
      left = w.left;
      counted = counted ∙ length-map w.records symbol_of;
    }))
  where
    d : Standing
    d = record { line = empty_line; tally = tally; held = None; state = states.Truncated count; finished = true }

    whole : take used text ≡ text
    whole =
        sym (append-nil (take used text)) ∙ ap (λ (x : List ℕ). take used text ++ x) (sym nothing) ∙ take-append-drop used text

    by : (b : Bool) → IsInput b text (text_of w.lines) → closed text ≡ text_of w.lines
    by false e = ap closed e ∙ closed_text w.lines
    by true e = e
