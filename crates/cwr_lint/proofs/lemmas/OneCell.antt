-- Of a text that differs from a good one in one derived cell just that cell's fault is told.
use Rattle.std.proofs.Common.{◌≡◌, ◌≢◌, ℕ, zero, suc, ◌+◌, ◌-◌, ◌<◌, ◌≤◌, min, Bool, true, false, cond, true≢false, List, [], ◌∷◌}
use Rattle.std.proofs.Common.{◌++◌, length, map, Option, Some, None, refl, sym, ap, subst, ◌∙◌, arith, inl, inr, append_assoc}
use Rattle.std.proofs.Common.{append-nil, slice_get}
use Rattle.std.specs.Prelude.{◌⊎◌, ◌^◌, ◌||◌, ◌==◌, IsFalse, drop, not}
use Rattle.std.specs.List.{AllByRecursion, AllZip, flat_map, list_all, list_any}
use Rattle.std.specs.Str.{bytes_eq}
use Rattle.std.specs.Io.KnownBytes.{Consumes, IsAtEnd}
use Rattle.std.proofs.lemmas.List.{length-append, length-map, map-append}
use Rattle.std.proofs.lemmas.Bool.{and_parts}
use Rattle.cwr_fields.specs.declared.kinds.Kind.{Kind}
use Rattle.cwr_fields.specs.declared.kinds.Kind.TheVariants as kinds
use Rattle.cwr_fields.specs.Format.Bytes.{filled}
use Rattle.cwr_fields.specs.Format.Layouts.{FieldLayout, field_at, fields_after_type, layout, line_width}
use Rattle.cwr_lines.specs.Format.Lines.{IsLineOf, cells_as, closed, is_lf, line_body, line_cells, line_kind, pieces, raw_lines}
use Rattle.cwr_lines.specs.Format.Records.{IsRecord, RecordValue, Row}
use Rattle.cwr_lines.proofs.lemmas.GoodLinesAreRows.{line_is_good}
use Rattle.cwr_shape.specs.declared.stages.Stage.{Stage}
use Rattle.cwr_shape.specs.declared.stages.Stage.TheVariants.{Start, Within, Closed, Ended}
use Rattle.cwr_shape.specs.declared.symbols.Symbol.{Symbol}
use Rattle.cwr_shape.specs.declared.symbols.Symbol.TheVariants.{Plain}
use Rattle.cwr_fields.specs.declared.codes.TransactionType.{TransactionType}
use Rattle.cwr_fields.specs.declared.codes.TransactionType.TheVariants.{Agreement, NewWork, RevisedWork, Acknowledgement}
use Rattle.cwr_shape.specs.Format.Numbers.{symbol_kind}
use Rattle.cwr_shape.specs.Format.Ranges.{AreInRange, LimitValues}
use Rattle.cwr_shape.specs.Steps.Counting.{HaveRoom}
use Rattle.cwr_shape.specs.Steps.NextStages.{next_stage}
use Rattle.cwr_shape.specs.declared.tallies.Counts.{Counts}
use Rattle.cwr_shape.specs.Format.NextSymbols.{MayCome, counts_of, is_header_of}
use Rattle.cwr_shape.specs.Format.Outlines.{Continues, IsWithin}
use Rattle.cwr_shape.specs.Steps.Left.{StandsAt}
use Rattle.cwr_shape.specs.Steps.Tallies.{IsTallyOf}
use Rattle.cwr_values.specs.Format.Begins.{numbers_after, row_after, rows_after, rows_so_far}
use Rattle.cwr_values.specs.Format.Rows.{records_of, records_of_group, trailer}
use Rattle.cwr_values.specs.Format.Values.{FitsIn, IsTransmission, TransmissionValue, symbol_of}
use Rattle.cwr_values.proofs.lemmas.RowAt.{kind_of_symbol, length-rows_so_far, rows_split}
use Rattle.cwr_values.proofs.lemmas.Spelling.{records_in_order}
use Rattle.cwr_values.proofs.lemmas.OneSpelling.{outline_whole, symbols-outline}
use Rattle.cwr_judge.proofs.lemmas.Accepted.{one_place}
use Rattle.cwr_judge.proofs.lemmas.LineRecords.{as_many}
use Rattle.cwr_judge.proofs.lemmas.RecordsBefore.{one_list}
use Rattle.cwr_fields.proofs.lemmas.AllKinds.{few_fields}
use Rattle.cwr_decode.proofs.lemmas.ClosedTexts.{closed_more}
use Rattle.cwr_decode.proofs.lemmas.RawLines.{raw_begins}
use Rattle.cwr_decode.specs.Steps.Represents.{text_of}
use Rattle.cwr_lint_lines.specs.Steps.Fronts.{state_at}
use Rattle.cwr_lint.specs.Steps.LinesRead.{IsTextOf}
use Rattle.cwr_lint.specs.Steps.OneCells.{OneCellIsTold}
use Rattle.cwr_lint.specs.Steps.Walks.{Walk, begins_at}
use Rattle.cwr_lint.proofs.lemmas.FairStates.{Fair}
use Rattle.cwr_lint.proofs.lemmas.GoodFronts.{CountsFit, Reaches, comes_next, fair_at, fresh_at, front_continues, front_itself}
use Rattle.cwr_lint.proofs.lemmas.GoodFronts.{one_stage, reaches}
use Rattle.cwr_lint.proofs.lemmas.GoodLines.{HasOtherCell, IsDerivedIn}
use Rattle.cwr_lint.proofs.lemmas.OtherPlaces.{OtherPlace, all_lines, no_feeds, other_place, place_in, split_same}
use Rattle.cwr_lint.proofs.lemmas.QuietWalks.{Agree, IsAfter, IsAt, IsQuiet, not_start, rest_quiet, row_quiet}
use Rattle.cwr_lint.proofs.lemmas.RowsGoOn.{have_room, is_ended}
use Rattle.cwr_lint.proofs.lemmas.StagesWithin.{further_goes}

-- ---- the lines that were read are those of the text

agree_of : (lines others x y : List (List ℕ)) → lines ++ x ≡ others ++ y → Agree lines others
agree_of [] others x y e = tt
agree_of (line ∷ lines) [] x y e = tt
agree_of (line ∷ lines) (other ∷ others) x y e =
    let rest : lines ++ x ≡ others ++ y = cc e in
    let first : line ≡ other = cc e in
    (first, agree_of lines others x y rest)

-- both texts are one, with more after each
BothAre : List (List ℕ) → List (List ℕ) → Type 0
BothAre a b = (x : List ℕ) × (y : List ℕ) × (text_of a ++ x ≡ text_of b ++ y)

both_are : (text : List ℕ) (left : Option (List ℕ)) (bytes rest : List ℕ) (last : Bool) (a b : List (List ℕ))
    → Consumes (Some text) left bytes → IsTextOf last bytes a → (last ≡ false → IsAtEnd left ⊎ (2 ^ 64 - 1 ≤ length text))
    → length text < 2 ^ 64 - 1
    → closed text ≡ text_of b ++ rest → BothAre a b
unfolding BothAre
both_are text None bytes rest last a b taken is cut short e = absurd taken
both_are text (Some more) bytes rest true a b taken is cut short e =
    (closed more, rest, sym (closed_more a more) ∙ ap closed (ap (λ (t : List ℕ). t ++ more) (sym is) ∙ sym taken) ∙ e)
both_are text (Some more) bytes rest false a b taken is cut short e = by (cut refl)
  where
    by : IsAtEnd (Some more) ⊎ (2 ^ 64 - 1 ≤ length text) → (x : List ℕ) × (y : List ℕ) × (text_of a ++ x ≡ text_of b ++ y)
    by (inr long) = absurd (omega (arith, long, short))
    by (inl end) = at (bytes_eq (drop (length text - 1) text) (10 ∷ []) || (length text == 0)) e
      where
        all : text ≡ bytes
        all = taken ∙ ap (λ (t : List ℕ). bytes ++ t) end ∙ append-nil bytes

        fed : text_of a ≡ text ++ 10 ∷ []
        fed = sym is ∙ ap (λ (t : List ℕ). t ++ 10 ∷ []) (sym all)

        at : (c : Bool) → cond c text (text ++ 10 ∷ []) ≡ text_of b ++ rest
            → (x : List ℕ) × (y : List ℕ) × (text_of a ++ x ≡ text_of b ++ y)
        at true q = (
          [],
          rest ++ 10 ∷ [],
          append-nil (text_of a) ∙ fed ∙ ap (λ (t : List ℕ). t ++ 10 ∷ []) q
              ∙ append_assoc (text_of b) rest (10 ∷ []),
        )
        at false q = ([], rest, append-nil (text_of a) ∙ fed ∙ q)

-- so their lines are the same
lines_same : (a b : List (List ℕ)) → AllByRecursion (λ line. IsFalse (list_any is_lf line)) a
    → AllByRecursion (λ line. IsFalse (list_any is_lf line)) b → BothAre a b
    → (x : List (List ℕ)) × (y : List (List ℕ)) × (a ++ x ≡ b ++ y)
unfolding BothAre
lines_same a b h k (x, y, e) = (raw_lines x, raw_lines y, sym (raw_begins a x h) ∙ ap raw_lines e ∙ raw_begins b y k)

-- ---- as many cells

length-pieces : (widths : List ℕ) (text : List ℕ) → length (pieces widths text) ≡ length widths
length-pieces [] text = refl
length-pieces (w ∷ widths) text = ap suc (length-pieces widths (drop w text))

many_cells : (kind : Kind) (a b : List ℕ) → line_kind a ≡ Some kind → line_kind b ≡ Some kind
    → length (line_cells a) ≡ length (line_cells b)
many_cells kind a b p q = of a p ∙ sym (of b q)
  where
    of : (line : List ℕ) → line_kind line ≡ Some kind
        → length (line_cells line) ≡ length (map (λ (f : FieldLayout). f.width) (layout kind))
    of line e =
        ap (λ (o : Option Kind). length (cells_as o (line_body line))) e
        ∙ length-pieces (map (λ (f : FieldLayout). f.width) (layout kind)) (filled (line_width kind) (line_body line))

-- ---- the ends of a transmission

passes_at : (p : FieldLayout → Bool) (fields : List FieldLayout) (i : ℕ) (f : FieldLayout) → list_all p fields ≡ true
    → slice_get fields i ≡ Some f → p f ≡ true
passes_at p [] i f h e = absurd (cc e)
passes_at p (g ∷ fields) zero f h e = let same : g ≡ f = cc e in ap p (sym same) ∙ (and_parts (p g) (list_all p fields) h).0
passes_at p (g ∷ fields) (suc i) f h e = passes_at p fields i f (and_parts (p g) (list_all p fields) h).1 e

-- HDR has no numbers
no_number : (k : ℕ) (f : FieldLayout) → 2 ≤ k → field_at kinds.Hdr k ≡ Some f → f.derived ≡ true → ⊥
no_number zero f two at d = omega (arith, two)
no_number (suc zero) f two at d = omega (arith, two)
no_number (suc (suc i)) f two at d =
    true≢false (sym (passes_at (λ g. not g.derived) (fields_after_type kinds.Hdr) i f refl at) ∙ ap not d)

first_is : (s : Symbol) (to : Stage) → next_stage Start s ≡ Some to → symbol_kind s ≡ kinds.Hdr
first_is (Plain kinds.Hdr) to e = refl
first_is s to e = absurd (cc e)

no_trailer : (ty : TransactionType) → is_header_of ty (Plain kinds.Trl) ≡ false
no_trailer Agreement = refl
no_trailer NewWork = refl
no_trailer RevisedWork = refl
no_trailer Acknowledgement = refl

-- after TRL it is over
over_after : (stage to : Stage) → next_stage stage (Plain kinds.Trl) ≡ Some to → is_ended to ≡ true
over_after Closed to e = let it : Ended ≡ to = cc e in ap is_ended (sym it)
over_after (Within ty step) to e =
    absurd (true≢false (sym (further_goes ty step (Plain kinds.Trl) to e (no_trailer ty) refl).further))
over_after stage to e = absurd (cc e)

all_back : (xs : List RecordValue) (y : RecordValue) (ys : List RecordValue) → AllByRecursion IsRecord (xs ++ y ∷ ys)
    → AllByRecursion IsRecord ys
all_back [] y ys h = h.1
all_back (x ∷ xs) y ys h = all_back xs y ys h.1

-- the last record is TRL
ends_with_trailer : (v : TransmissionValue) → (xs : List RecordValue) × (records_of v ≡ xs ++ trailer ∷ [])
ends_with_trailer v = (v.opening ∷ flat_map records_of_group v.groups, refl)

over_at_end : (limits : LimitValues) (v : TransmissionValue) (last : Stage) → AreInRange limits → IsTransmission v
    → FitsIn limits v → StandsAt (map symbol_of (records_of v)) last → is_ended last ≡ true
over_at_end limits v last range whole within stands =
    let (xs, split) = ends_with_trailer v in
    let grown : map symbol_of (records_of v) ≡ map symbol_of xs ++ Plain kinds.Trl ∷ [] =
    ap (map symbol_of) split ∙ map-append symbol_of xs (trailer ∷ []) in
    let goes : Continues (IsWithin limits) (map symbol_of xs ++ Plain kinds.Trl ∷ []) = (
      _,
      outline_whole v whole,
      within,
      ([], symbols-outline v whole ∙ grown ∙ sym (append-nil (map symbol_of xs ++ Plain kinds.Trl ∷ []))),
    ) in
    let before = reaches limits (map symbol_of xs) range (front_itself limits (map symbol_of xs) (Plain kinds.Trl ∷ []) goes) in
    let on = comes_next limits (map symbol_of xs) before.stage (Plain kinds.Trl) range before.stands goes in
    let same : on.to ≡ last =
    one_stage (map symbol_of xs ++ Plain kinds.Trl ∷ []) on.to last on.stands
    (subst (λ (ys : List Symbol). StandsAt ys last) grown stands) in
    sym (ap is_ended same) ∙ over_after before.stage on.to on.next

-- ---- just that cell

pub one_cell : OneCellIsTold
one_cell asked limits text left refusal tally found advice refused lines last over bytes written before wrong kind k d short is_refused taken
    read cut told =
    (rec_is, field_is, first.2.nothing, later)
  where
    place : OtherPlace limits text before wrong kind k d
    place = other_place limits text before wrong kind k d

    same_place : (refusal.rec ≡ length before + 1) × (refusal.field ≡ k)
    same_place = one_place limits text refusal.rec (length before + 1) refusal.field k is_refused.first place.first

    rec_is : refusal.rec ≡ length before + 1
    rec_is = same_place.0

    field_is : refusal.field ≡ k
    field_is = same_place.1

    free : AllByRecursion (λ line. IsFalse (list_any is_lf line)) (before ++ wrong ∷ d.after)
    free =
        all_lines before (wrong ∷ d.after) (no_feeds place.cut.front before place.cut.front_lines)
        (d.no_lf, no_feeds place.cut.rest d.after place.cut.rest_lines)

    read_free : AllByRecursion (λ line. IsFalse (list_any is_lf line)) (read.front ++ refused ∷ lines)
    read_free = all_lines read.front (refused ∷ lines) (no_feeds (rows_so_far read.records) read.front read.rows) read.no_lf

    both : (x : List (List ℕ)) × (y : List (List ℕ)) × ((read.front ++ refused ∷ lines) ++ x ≡ (before ++ wrong ∷ d.after) ++ y)
    both =
        lines_same (read.front ++ refused ∷ lines) (before ++ wrong ∷ d.after) read_free free (both_are text left bytes d.rest
        last (read.front ++ refused ∷ lines) (before ++ wrong ∷ d.after) taken read.text cut short d.text_is)

    parts : (read.front ≡ before) × (refused ∷ (lines ++ both.0) ≡ wrong ∷ (d.after ++ both.1))
    parts =
        split_same read.front before (refused ∷ (lines ++ both.0)) (wrong ∷ (d.after ++ both.1))
        (omega (arith, read.number, rec_is))
        (sym (append_assoc read.front (refused ∷ lines) both.0) ∙ both.2 ∙ append_assoc before (wrong ∷ d.after) both.1)

    refused_is : refused ≡ wrong
    refused_is = cc parts.1

    more_same : lines ++ both.0 ≡ d.after ++ both.1
    more_same = cc parts.1

    front : List RecordValue
    front = place.front.records

    r : RecordValue
    r = place.front.at

    records_are : read.records ≡ front
    records_are =
        one_list read.records front before read.in_order place.front.in_order
        (subst (AllZip IsLineOf (rows_so_far read.records)) parts.0 read.rows)
        (subst (λ (v : List Row). AllZip IsLineOf v before) (sym place.front.front_are) place.cut.front_lines)

    counted : IsTallyOf tally (map symbol_of front)
    counted = subst (λ (rs : List RecordValue). IsTallyOf tally (map symbol_of rs)) records_are read.counted

    whole : Continues (IsWithin limits) (map symbol_of (front ++ r ∷ place.front.more))
    whole = (
      _,
      outline_whole d.value d.whole,
      d.within,
      (
        [],
        symbols-outline d.value d.whole ∙ ap (map symbol_of) place.front.split
            ∙ sym (append-nil (map symbol_of (front ++ r ∷ place.front.more))),
      ),
    )

    whole_symbols : Continues (IsWithin limits) (map symbol_of front ++ symbol_of r ∷ map symbol_of place.front.more)
    whole_symbols = subst (Continues (IsWithin limits)) (map-append symbol_of front (r ∷ place.front.more)) whole

    reached : Reaches (map symbol_of front)
    reached =
        reaches limits (map symbol_of front) d.range
        (front_itself limits (map symbol_of front) (symbol_of r ∷ map symbol_of place.front.more) whole_symbols)

    begins : Walk
    begins = begins_at (state_at tally.stage tally.counts (refusal.rec - 1)) found advice

    -- the tally is that of the front
    xs : List Symbol
    xs = map symbol_of front

    comes : MayCome limits xs (symbol_of r)
    comes = front_continues limits xs (symbol_of r) (map symbol_of place.front.more) whole_symbols

    right_of : IsLineOf (row_after front r) d.right
    right_of = subst (λ (row : Row). IsLineOf row d.right) (sym place.front.next_is) place.cut.line_of

    kind_is : r.kind ≡ kind
    kind_is =
        let same : Some r.kind ≡ Some kind =
        sym (line_is_good (numbers_after xs r.kind) r d.right place.front.at_in_order right_of).kind_is ∙ d.right_kind in cc same

    begun : tally.stage ≢ Start
    begun q =
        let on = comes_next limits xs tally.stage (symbol_of r) d.range counted.stands comes in
        let hdr : r.kind ≡ kinds.Hdr =
        sym (kind_of_symbol r)
        ∙ first_is (symbol_of r) on.to (sym (ap (λ (x : Stage). next_stage x (symbol_of r)) q) ∙ on.next) in
        no_number k d.field d.from (subst (λ (x : Kind). field_at x k ≡ Some d.field) (sym kind_is ∙ hdr) d.found) d.derived

    at : IsAt limits front r tally.stage
    at =
        record {
          range = d.range;
          stands = counted.stands;
          begun = begun;
          within = front_itself limits xs (symbol_of r ∷ map symbol_of place.front.more) whole_symbols;
          in_order = place.front.at_in_order;
          comes = comes;
        }

    same : HasOtherCell k d.right refused
    same =
        subst (λ (line : List ℕ). HasOtherCell k d.right line) (sym refused_is) (record {
          kind = d.wrong_kind ∙ sym d.right_kind;
          excess = d.excess;
          many = many_cells kind wrong d.right d.wrong_kind d.right_kind;
          elsewhere = d.elsewhere;
        })

    derived : IsDerivedIn r.kind k
    derived = inr (d.field, d.from, subst (λ (x : Kind). field_at x k ≡ Some d.field) (sym kind_is) d.found, d.derived)

    few : k + 1 ≤ length (layout kind) + 1
    few = at_most k d.from d.found
      where
        at_most : (m : ℕ) → 2 ≤ m → field_at kind m ≡ Some d.field → m + 1 ≤ length (layout kind) + 1
        at_most zero two e = omega (arith, two)
        at_most (suc i) two e = omega (arith, place_in (layout kind) i d.field e)

    late : k < min (refusal.field + 1) (2 ^ 8 - 1)
    late = omega (arith, few, few_fields kind, field_is)

    lines_counted : refusal.rec - 1 ≡ tally.counts.records
    lines_counted =
        omega (
          arith,
          rec_is,
          ap (λ (c : Counts). c.records) counted.counted,
          as_many (rows_so_far front) before
              (subst (λ (v : List Row). AllZip IsLineOf v before) (sym place.front.front_are) place.cut.front_lines),
          length-rows_so_far
              front,
          length-map front symbol_of,
        )

    fits : CountsFit tally.stage tally.counts
    fits =
        subst (CountsFit tally.stage) (sym counted.counted) (subst (λ (x : Stage). CountsFit x (counts_of xs))
        (one_stage xs reached.stage tally.stage reached.stands counted.stands) reached.fits)

    room : HaveRoom tally.counts
    room =
        let on =
        comes_next limits xs tally.stage (symbol_of r) d.range counted.stands comes in
        subst HaveRoom (sym counted.counted) (have_room (counts_of xs) (symbol_of r) on.to on.small)

    fair : Fair tally.stage (counts_of xs) begins.state
    fair =
        subst (λ (c : Counts). Fair tally.stage c begins.state) counted.counted
        (fair_at tally.stage tally.counts (refusal.rec - 1) lines_counted fits room)

    first : (to : Stage) × IsAfter front r tally.stage to
        × IsQuiet told.others to (counts_of (map symbol_of (front ++ r ∷ []))) told.between.state (is_ended to)
    first =
        row_quiet asked limits front r tally.stage d.right refused k (min (refusal.field + 1) (2 ^ 8 - 1)) begins told.between
        told.others told.beside at right_of same derived (inl late) (omega (arith, late)) fair
        (λ _. fresh_at tally.stage tally.counts (refusal.rec - 1)) told.tells_others

    assoc : (front ++ r ∷ []) ++ place.front.more ≡ records_of d.value
    assoc = append_assoc front (r ∷ []) place.front.more ∙ sym place.front.split

    rest_rows : place.cut.rest ≡ rows_after (front ++ r ∷ []) place.front.more
    rest_rows =
        (split_same (place.cut.front ++ place.cut.at ∷ []) (rows_so_far (front ++ r ∷ [])) place.cut.rest
        (rows_after (front ++ r ∷ []) place.front.more)
        (omega (
          arith,
          length-append place.cut.front (place.cut.at ∷ []),
          ap length place.front.front_are,
          length-rows_so_far front,
          length-rows_so_far (front ++ r ∷ []),
          length-append front (r ∷ []),
        ))
        (append_assoc place.cut.front (place.cut.at ∷ []) place.cut.rest ∙ sym place.cut.split
        ∙ rows_split d.value (front ++ r ∷ []) place.front.more d.whole (sym assoc))).1

    later : told.later ≡ []
    later =
        rest_quiet asked limits (front ++ r ∷ []) place.front.more first.0 lines d.after told.between told.last told.later
        told.after d.range
        (all_back front r place.front.more (subst (AllByRecursion IsRecord) place.front.split (records_in_order d.value d.whole)))
        (subst (λ (rs : List RecordValue). Continues (IsWithin limits) (map symbol_of rs))
        (sym (append_assoc front (r ∷ []) place.front.more)) whole) first.1.stands (not_start tally.stage first.0
        (symbol_of r) first.1.next) first.2.fair first.2.over_is
        (λ end stands. over_at_end limits d.value end d.range d.whole d.within
        (subst (λ (rs : List RecordValue). StandsAt (map symbol_of rs) end) assoc stands))
        (subst (λ (v : List Row). AllZip IsLineOf v d.after) rest_rows place.cut.rest_lines)
        (agree_of lines d.after both.0 both.1 more_same) told.tells_later
