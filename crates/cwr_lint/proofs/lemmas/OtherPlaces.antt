-- Where a text differs from a good one in one derived cell, nothing continues from that cell, and that is the first such place.
use Rattle.std.proofs.Common.{◌≡◌, ◌≢◌, ℕ, zero, suc, ◌+◌, ◌-◌, ◌<◌, ◌≤◌, Bool, true, false, true≢false, List, [], ◌∷◌, ◌++◌}
use Rattle.std.proofs.Common.{length, map, take, drop, Option, Some, refl, sym, ap, subst, ◌∙◌, arith, inl, inr, append_assoc}
use Rattle.std.proofs.Common.{slice_get}
use Rattle.std.specs.Prelude.{◌⊎◌, IsFalse, slice_index}
use Rattle.std.specs.List.{AllByRecursion, AllZip, list_any}
use Rattle.std.proofs.lemmas.List.{map-append}
use Rattle.cwr_fields.specs.declared.kinds.Kind.{Kind}
use Rattle.cwr_lines.specs.Format.GoodCells.{AreGood}
use Rattle.cwr_fields.specs.Format.Layouts.{FieldLayout, field_at, fields_after_type, layout}
use Rattle.cwr_lines.specs.Format.Lines.{IsLineOf, closed, is_lf, line_cells, line_kind, raw_lines}
use Rattle.cwr_lines.specs.Format.Records.{IsGoodCell, RecordValue, Row, rest_if}
use Rattle.cwr_lines.proofs.lemmas.CutLaws.{IsCutInto, line_is_cut}
use Rattle.cwr_lines.proofs.lemmas.RowLaws.{IsRow-row_of}
use Rattle.cwr_lines.proofs.lemmas.GoodLinesAreRows.{IsCutGood, line_is_good}
use Rattle.cwr_shape.specs.declared.limits.Limits.{Limits}
use Rattle.cwr_shape.specs.Format.Outlines.{Continues, IsWithin}
use Rattle.cwr_values.specs.Format.Begins.{numbers_after, row_after, rows_so_far}
use Rattle.cwr_values.specs.Format.Rows.{rows}
use Rattle.cwr_values.specs.Format.Values.{symbol_of}
use Rattle.cwr_values.proofs.lemmas.OneSpelling.{outline_whole, symbols-outline}
use Rattle.cwr_judge.specs.Format.Places.{IsBadAt, IsFirstBad, Viable, last_place}
use Rattle.cwr_judge.proofs.lemmas.AcceptedViable.{accepted_viable}
use Rattle.cwr_judge.proofs.lemmas.RecordsBefore.{Before, one_list, records_before}
use Rattle.cwr_judge.proofs.lemmas.ViableCells.{viable_continues}
use Rattle.cwr_decode.proofs.lemmas.RawLines.{raw_begins}
use Rattle.cwr_lint.specs.Format.OneCells.{DiffersInOneCell}
use Rattle.cwr_lint.proofs.lemmas.QuietLines.{compared}

-- ---- lists

pub split_same : {X : Type 0} (a b c d : List X) → length a ≡ length b → a ++ c ≡ b ++ d → (a ≡ b) × (c ≡ d)
split_same [] [] c d n e = (refl, e)
split_same [] (y ∷ b) c d n e = absurd (omega (arith, n))
split_same (x ∷ a) [] c d n e = absurd (omega (arith, n))
split_same (x ∷ a) (y ∷ b) c d n e =
    let rest : a ++ c ≡ b ++ d = cc e in
    let first : x ≡ y = cc e in
    let more = split_same a b c d (omega (arith, n)) rest in
    (λ i. first i ∷ more.0 i, more.1)

-- ---- the rows of the good text

-- the lines before, that line, and those after it
pub record CutRows (v : List Row) (before : List (List ℕ)) (line : List ℕ) (after : List (List ℕ)) : Type 0 where
  pub front : List Row
  pub at : Row
  pub rest : List Row
  pub split : v ≡ front ++ at ∷ rest
  pub front_lines : AllZip IsLineOf front before
  pub line_of : IsLineOf at line
  pub rest_lines : AllZip IsLineOf rest after

pub cut_rows : (v : List Row) (before : List (List ℕ)) (line : List ℕ) (after : List (List ℕ))
    → AllZip IsLineOf v (before ++ line ∷ after) → CutRows v before line after
cut_rows [] [] line after z = absurd z
cut_rows [] (b ∷ before) line after z = absurd z
cut_rows (r ∷ v) [] line after z =
    record { front = []; at = r; rest = v; split = refl; front_lines = tt; line_of = z.0; rest_lines = z.1 }
cut_rows (r ∷ v) (b ∷ before) line after z =
    let c = cut_rows v before line after z.1 in
    record {
      front = r ∷ c.front;
      at = c.at;
      rest = c.rest;
      split = ap (λ (l : List Row). r ∷ l) c.split;
      front_lines = (z.0, c.front_lines);
      line_of = c.line_of;
      rest_lines = c.rest_lines;
    }

-- lines of rows have no line feed
pub no_feeds : (v : List Row) (lines : List (List ℕ)) → AllZip IsLineOf v lines
    → AllByRecursion (λ line. IsFalse (list_any is_lf line)) lines
no_feeds [] [] z = tt
no_feeds [] (line ∷ lines) z = absurd z
no_feeds (r ∷ v) [] z = absurd z
no_feeds (r ∷ v) (line ∷ lines) z = (z.0.0, no_feeds v lines z.1)

pub all_lines : (a b : List (List ℕ)) → AllByRecursion (λ line. IsFalse (list_any is_lf line)) a
    → AllByRecursion (λ line. IsFalse (list_any is_lf line)) b → AllByRecursion (λ line. IsFalse (list_any is_lf line)) (a ++ b)
all_lines [] b h k = k
all_lines (x ∷ a) b h k = (h.0, all_lines a b h.1 k)

-- ---- the number that belongs there

good_same : (fields : List FieldLayout) (ns : List ℕ) (cs ds : List (List ℕ)) (m i : ℕ) (f : FieldLayout)
    → AreGood (take m fields) ns (take m cs) → AreGood fields ns ds → i < m → slice_get fields i ≡ Some f → f.derived ≡ true
    → slice_get cs i ≡ slice_get ds i
good_same fields ns cs ds zero i f g h less at d = absurd (omega (arith, less))
good_same [] ns cs ds (suc m) i f g h less at d = absurd (cc at)
good_same (x ∷ fields) ns [] ds (suc m) i f g h less at d = absurd g
good_same (x ∷ fields) ns (c ∷ cs) [] (suc m) i f g h less at d = absurd h
good_same (x ∷ fields) ns (c ∷ cs) (e ∷ ds) (suc m) zero f g h less at d =
    by x.derived (ap (λ (y : FieldLayout). y.derived) same ∙ d) g.0 h.0
  where
    same : x ≡ f
    same = cc at

    by : (b : Bool) → b ≡ true → IsGoodCell b x (slice_index ns 0) c → IsGoodCell b x (slice_index ns 0) e → Some c ≡ Some e
    by true q p r = ap Some (p ∙ sym r)
    by false q p r = absurd (true≢false (sym q))
good_same (x ∷ fields) ns (c ∷ cs) (e ∷ ds) (suc m) (suc i) f g h less at d =
    good_same fields (rest_if x.derived ns) cs ds m i f g.1 h.1 (omega (arith, less)) at d

after_first : (cells : List (List ℕ)) (k : ℕ) → slice_get (drop 1 cells) k ≡ slice_get cells (suc k)
after_first [] k = refl
after_first (c ∷ cells) k = refl

some_kind : (a b : Kind) (o : Option Kind) → o ≡ Some a → o ≡ Some b → a ≡ b
some_kind a b o p q = let same : Some a ≡ Some b = sym p ∙ q in cc same

pub place_in : {X : Type 0} (xs : List X) (i : ℕ) (x : X) → slice_get xs i ≡ Some x → i < length xs
place_in [] i x e = absurd (cc e)
place_in (y ∷ xs) zero x e = omega arith
place_in (y ∷ xs) (suc i) x e = omega (arith, place_in xs i x e)

-- as many of the same cells
take_same : (xs ys : List (List ℕ)) (l : ℕ) → ((m : ℕ) → m < l → slice_get xs m ≡ slice_get ys m) → take l xs ≡ take l ys
take_same xs ys zero h = refl
take_same [] [] (suc l) h = refl
take_same [] (y ∷ ys) (suc l) h = absurd (cc (h 0 (omega arith)))
take_same (x ∷ xs) [] (suc l) h = absurd (cc (h 0 (omega arith)))
take_same (x ∷ xs) (y ∷ ys) (suc l) h =
    let first : x ≡ y = cc (h 0 (omega arith)) in
    let rest = take_same xs ys l (λ m less. h (suc m) (omega (arith, less))) in
    λ i. first i ∷ rest i

-- ---- the first place

pub record OtherPlace (limits : Limits) (text : List ℕ) (before : List (List ℕ)) (wrong : List ℕ) (kind : Kind) (k : ℕ)
    (d : DiffersInOneCell limits text before wrong kind k) : Type 0 where
  pub cut : CutRows (rows d.value) before d.right d.after
  pub front : Before d.value cut.front cut.at
  pub first : IsFirstBad limits text (length before + 1) k
  pub not_viable : ¬ Viable limits before wrong k

pub other_place : (limits : Limits) (text : List ℕ) (before : List (List ℕ)) (wrong : List ℕ) (kind : Kind) (k : ℕ)
    → (d : DiffersInOneCell limits text before wrong kind k) → OtherPlace limits text before wrong kind k d
other_place limits text before wrong kind k d =
    record { cut = cut; front = front; first = (bad_here, first); not_viable = not_viable }
  where
    cut : CutRows (rows d.value) before d.right d.after
    cut = cut_rows (rows d.value) before d.right d.after d.lines

    front : Before d.value cut.front cut.at
    front = records_before d.value cut.front cut.at cut.rest d.whole cut.split

    lines_are : AllZip IsLineOf (rows_so_far front.records) before
    lines_are = subst (λ (v : List Row). AllZip IsLineOf v before) (sym front.front_are) cut.front_lines

    right_of : IsLineOf (row_after front.records front.at) d.right
    right_of = subst (λ (r : Row). IsLineOf r d.right) (sym front.next_is) cut.line_of

    good : IsCutGood (numbers_after (map symbol_of front.records) front.at.kind) front.at.kind d.right
    good = line_is_good (numbers_after (map symbol_of front.records) front.at.kind) front.at d.right front.at_in_order right_of

    kind_is : front.at.kind ≡ kind
    kind_is = some_kind front.at.kind kind (line_kind d.right) good.kind_is d.right_kind

    free : AllByRecursion (λ line. IsFalse (list_any is_lf line)) (before ++ wrong ∷ d.after)
    free =
        all_lines before (wrong ∷ d.after) (no_feeds cut.front before cut.front_lines)
        (d.no_lf, no_feeds cut.rest d.after cut.rest_lines)

    raw : raw_lines (closed text) ≡ before ++ wrong ∷ (d.after ++ raw_lines d.rest)
    raw =
        ap raw_lines d.text_is ∙ raw_begins (before ++ wrong ∷ d.after) d.rest free
        ∙ append_assoc before (wrong ∷ d.after) (raw_lines d.rest)

    not_viable : ¬ Viable limits before wrong k
    not_viable v = by k d.from d.found d.other v
      where
        by : (m : ℕ) → 2 ≤ m → field_at kind m ≡ Some d.field
            → slice_get (line_cells wrong) (m - 1) ≢ slice_get (line_cells d.right) (m - 1) → Viable limits before wrong m → ⊥
        by zero two at ne v = omega (arith, two)
        by (suc zero) two at ne v = omega (arith, two)
        by (suc (suc i)) two at ne v =
            let g = viable_continues limits before wrong (suc i) v in
            let records : g.records ≡ front.records =
            one_list g.records front.records before g.in_order front.in_order g.lines lines_are in
            let same_kind : g.front.kind ≡ kind = some_kind g.front.kind kind (line_kind wrong) g.front.known d.wrong_kind in
            let mine : AreGood (take (suc i) (fields_after_type kind)) (numbers_after (map symbol_of front.records) kind)
            (take (suc i) (drop 1 (line_cells wrong))) =
            subst (λ (rs : List RecordValue). AreGood (take (suc i) (fields_after_type kind))
            (numbers_after (map symbol_of rs) kind) (take (suc i) (drop 1 (line_cells wrong)))) records
            (subst (λ (x : Kind). AreGood (take (suc i) (fields_after_type x)) (numbers_after (map symbol_of g.records) x)
            (take (suc i) (drop 1 (line_cells wrong)))) same_kind g.front.good) in
            let its : AreGood (fields_after_type kind) (numbers_after (map symbol_of front.records) kind)
            (drop 1 (line_cells d.right)) =
            subst (λ (x : Kind). AreGood (fields_after_type x) (numbers_after (map symbol_of front.records) x)
            (drop 1 (line_cells d.right))) kind_is good.good in
            let less : suc (suc i) - 1 ≡ suc i = omega arith in
            ne (ap (slice_get (line_cells wrong)) less ∙ sym (after_first (line_cells wrong) i) ∙ good_same
            (fields_after_type kind) (numbers_after (map symbol_of front.records) kind) (drop 1 (line_cells wrong))
            (drop 1 (line_cells d.right)) (suc i) i d.field mine its (omega arith) at d.derived
            ∙ after_first (line_cells d.right) i ∙ sym (ap (slice_get (line_cells d.right)) less))

    inside : k ≤ last_place (line_kind wrong)
    inside = subst (λ (o : Option Kind). k ≤ last_place o) (sym d.wrong_kind) (at_most k d.from d.found)
      where
        at_most : (m : ℕ) → 2 ≤ m → field_at kind m ≡ Some d.field → m ≤ length (layout kind) + 1
        at_most zero two at = omega arith
        at_most (suc i) two at = omega (arith, place_in (layout kind) i d.field at)

    bad_here : IsBadAt limits text (length before + 1) k
    bad_here =
        record {
          before = before;
          line = wrong;
          after = d.after ++ raw_lines d.rest;
          lines = raw;
          at = refl;
          from = omega (arith, d.from);
          to = inside;
          bad = not_viable;
        }

    symbols : Continues (IsWithin limits) (map symbol_of front.records)
    symbols = (
      _,
      outline_whole d.value d.whole,
      d.within,
      (
        map symbol_of (front.at ∷ front.more),
        symbols-outline d.value d.whole ∙ ap (map symbol_of) front.split
            ∙ map-append symbol_of front.records (front.at ∷ front.more),
      ),
    )

    -- an earlier cell of that line
    viable_here : (l : ℕ) → l < k → Viable limits before wrong l
    viable_here l less = record {
      value = d.value;
      whole = d.whole;
      within = d.within;
      front = cut.front;
      next = cut.at;
      rest = cut.rest;
      split = cut.split;
      lines = cut.front_lines;
      cells = (
        ap (λ (r : Row). take l r.cells) (sym front.next_is) ∙ ap (take l) (sym row_cut.cells)
            ∙ take_same (line_cells d.right) (line_cells wrong) l (λ m h. sym (at_cell m h)),
        λ far. d.excess,
      );
    } where
      row_cut : IsCutInto d.right (row_after front.records front.at)
      row_cut =
          line_is_cut (row_after front.records front.at) d.right
          (IsRow-row_of (numbers_after (map symbol_of front.records) front.at.kind) front.at front.at_in_order) right_of

      at_cell : (m : ℕ) → m < l → slice_get (line_cells wrong) m ≡ slice_get (line_cells d.right) m
      at_cell m h =
          let less_one : suc m - 1 ≡ m =
          omega arith in ap (slice_get (line_cells wrong)) (sym less_one)
          ∙ d.elsewhere (suc m) (λ q. absurd (omega (arith, q, h, less))) ∙ ap (slice_get (line_cells d.right)) less_one

    -- a line before it
    within_before : (front_lines : List (List ℕ)) (line : List ℕ) (back : List (List ℕ)) (others : List (List ℕ))
        → length front_lines < length others → front_lines ++ line ∷ back ≡ others ++ wrong ∷ (d.after ++ raw_lines d.rest)
        → (more : List (List ℕ)) × (others ≡ front_lines ++ line ∷ more)
    within_before [] line back [] n e = absurd (omega (arith, n))
    within_before [] line back (x ∷ others) n e =
        let first : line ≡ x = cc e in (others, ap (λ (y : List ℕ). y ∷ others) (sym first))
    within_before (a ∷ front_lines) line back [] n e = absurd (omega (arith, n))
    within_before (a ∷ front_lines) line back (x ∷ others) n e =
        let rest : front_lines ++ line ∷ back ≡ others ++ wrong ∷ (d.after ++ raw_lines d.rest) = cc e in
        let first : a ≡ x = cc e in
        let more = within_before front_lines line back others (omega (arith, n)) rest in
        let back_first : x ≡ a = sym first in
        (more.0, λ i. back_first i ∷ more.1 i)

    first : (j l : ℕ) → IsBadAt limits text j l → (length before + 1 < j) ⊎ ((length before + 1 ≡ j) × (k ≤ l))
    first j l bad = by (compared j (length before + 1))
      where
        by : (j ≤ length before + 1) ⊎ (length before + 1 < j) → (length before + 1 < j) ⊎ ((length before + 1 ≡ j) × (k ≤ l))
        by (inr h) = inl h
        by (inl h) = at (compared (length before + 1) j)
          where
            at : (length before + 1 ≤ j) ⊎ (j < length before + 1) → (length before + 1 < j) ⊎ ((length before + 1 ≡ j) × (k ≤ l))
            at (inr earlier) =
                let more =
                within_before bad.before bad.line bad.after before (omega (arith, earlier, bad.at)) (sym bad.lines ∙ raw) in
                absurd (bad.bad (accepted_viable limits front.records bad.before bad.line more.0 l front.in_order
                (subst (AllZip IsLineOf (rows_so_far front.records)) more.1 lines_are) symbols))
            at (inl g) = cell (compared k l)
              where
                same : (bad.before ≡ before) × (bad.line ∷ bad.after ≡ wrong ∷ (d.after ++ raw_lines d.rest))
                same =
                    split_same bad.before before (bad.line ∷ bad.after) (wrong ∷ (d.after ++ raw_lines d.rest))
                    (omega (arith, bad.at, h, g)) (sym bad.lines ∙ raw)

                line_same : bad.line ≡ wrong
                line_same = cc same.1

                cell : (k ≤ l) ⊎ (l < k) → (length before + 1 < j) ⊎ ((length before + 1 ≡ j) × (k ≤ l))
                cell (inl m) = inr (omega (arith, h, g), m)
                cell (inr m) =
                    absurd (bad.bad (subst (λ (b : List (List ℕ)). Viable limits b bad.line l) (sym same.0)
                    (subst (λ (x : List ℕ). Viable limits before x l) (sym line_same) (viable_here l m))))
