-- A text that is neither accepted nor refused is truncated: where nothing continues from some first place, a first reason holds there.
use Rattle.std.proofs.Common.{◌≡◌, ℕ, zero, suc, ◌+◌, ◌-◌, ◌<◌, ◌≤◌, Bool, true, false, cond, List, [], ◌∷◌, ◌++◌, length, map}
use Rattle.std.proofs.Common.{take, refl, sym, ap, subst, ◌∙◌, arith, append_assoc, inl, inr, true≢false, ltb-true, ltb-false}
use Rattle.std.specs.Prelude.{◌⊎◌, ◌||◌, Option, Some, None, Result, Ok, Err, IfSome, IsSomeAnd, nat_lt, option_map}
use Rattle.std.specs.List.{AllZip, AllByRecursion, list_any, slice_split, onto_first}
use Rattle.std.proofs.lemmas.List.{map-append, length-append, length-take}
use Rattle.std.proofs.lemmas.Bool.{or_from}
use Rattle.cwr_fields.proofs.lemmas.LineFeeds.{NoLf}
use Rattle.cwr_fields.specs.Format.Bytes.{digits}
use Rattle.cwr_fields.specs.Format.Cells.{Allows, fault_of}
use Rattle.cwr_fields.specs.declared.kinds.Kind.{Kind}
use Rattle.cwr_lines.specs.declared.lines.LineEnd.TheVariants.{Line, Over}
use Rattle.cwr_fields.specs.Format.Layouts.{FieldLayout, layout, fields_after_type, field_at, field_with_start}
use Rattle.cwr_lines.specs.Format.Lines.{IsLineOf, closed, raw_lines, is_lf, line_kind, longest_line}
use Rattle.cwr_lines.specs.Format.Records.{RecordValue, Row, IsRecord}
use Rattle.cwr_lines.specs.Steps.Held.{HeldLine, HoldsLine, IsCutAs, IsHeld, held_kind, held_cell}
use Rattle.cwr_fields.proofs.lemmas.FieldStarts.{field_at-start}
use Rattle.cwr_lines.proofs.lemmas.HeldLaws.{held_cell_there, held_line_is_cut}
use Rattle.cwr_shape.specs.declared.symbols.Symbol.{Symbol}
use Rattle.cwr_shape.specs.declared.limits.Limits.{Limits}
use Rattle.cwr_shape.specs.declared.reasons.Reason.{Reason}
use Rattle.cwr_shape.specs.declared.reasons.Reason.TheVariants as reasons
use Rattle.cwr_shape.specs.declared.tallies.Bar.{Bar}
use Rattle.cwr_shape.specs.Format.Levels.{level_of, scope_after_kind}
use Rattle.cwr_shape.specs.Format.Numbers.{IsNumberAt}
use Rattle.cwr_shape.specs.Format.Outlines.{IsWithin, Continues}
use Rattle.cwr_shape.specs.Format.Ranges.{LimitValues, AreInRange}
use Rattle.cwr_shape.specs.Format.NextSymbols.{Answers, AnswersKind, MayCome, counts_of}
use Rattle.cwr_shape.proofs.lemmas.EachAnswered.{answer_kind, answer_one}
use Rattle.cwr_shape.proofs.lemmas.StageStands.{stands_start}
use Rattle.cwr_shape.proofs.lemmas.TallyWithOneMore.{stands_new}
use Rattle.cwr_shape.specs.declared.stages.Stage.TheVariants as stages
use Rattle.cwr_values.specs.Format.Values.{symbol_of}
use Rattle.cwr_values.specs.Format.Begins.{row_after, rows_after, rows_so_far}
use Rattle.cwr_values.proofs.lemmas.RowAt.{rows_so_far-snoc}
use Rattle.cwr_judge.specs.Format.Ends.{IsNotAccepted, IsNotRefused, IsTruncated, last_kind}
use Rattle.cwr_judge.specs.Format.Reasons.{IsReason}
use Rattle.cwr_judge.specs.Format.Places.{IsBadAt, IsFirstBad, Viable, last_place}
use Rattle.cwr_judge.specs.Steps.Judged.{HasReasonAt, IsFirstBy, IsFirstFault, IsFirstWrong, IsGoodAt, IsGoodNextCell, IsFaultBy}
use Rattle.cwr_judge.specs.Steps.Judged.{IsNext, MayComeOf, bar_reason, cell, named_symbol, past_last}
use Rattle.cwr_judge.proofs.lemmas.AcceptedViable.{accepted_viable}
use Rattle.cwr_judge.proofs.lemmas.FirstFaults.{first_barred, first_of, no_field, one_more, text_barred}
use Rattle.cwr_judge.proofs.lemmas.FirstReasons.{first_reason}
use Rattle.cwr_judge.proofs.lemmas.FrontsBeforeFaults.{GoodBelow, front_before, wrong_field}
use Rattle.cwr_judge.proofs.lemmas.GoodLines.{AllGood, excess_left}
use Rattle.cwr_judge.proofs.lemmas.LineRecords.{line_record}
use Rattle.cwr_judge.proofs.lemmas.NextLines.{next_is_line, number_next, some_number}
use Rattle.cwr_judge.proofs.lemmas.NoneAtFaults.{none_at_fault}
use Rattle.cwr_judge.proofs.lemmas.SomeEnd.{some_end}
use Rattle.cwr_judge.proofs.lemmas.ViableCells.{continuing_viable, viable_continues, viable_front}

-- where it would be absurd both that something holds and that it doesn't, that is absurd already
either : {P : Type 0} → (P → ⊥) → (¬ P → ⊥) → ⊥
either holds fails = fails holds

-- ---- a cell

-- the cell in a field after the record type is good, or a reason holds there
good_or_not : (limits : LimitValues) (xs : List Symbol) (h : HeldLine) (kind : Kind) (j : ℕ) → AreInRange limits
    → Continues (IsWithin limits) xs → held_kind h ≡ Some kind → MayComeOf limits xs kind → 2 ≤ j → j ≤ length (layout kind)
    → (IsGoodAt limits xs h kind j → ⊥) → ((reason : Reason) → HasReasonAt limits xs h kind j reason → ⊥) → ⊥
good_or_not limits xs h kind j range g known may from to good bad = at (field_with_start kind j) refl
  where
    cell_by : (f : FieldLayout) (c : List ℕ) → field_at kind j ≡ Some f → held_cell h j ≡ Some c → (b : Bool) → f.derived ≡ b → ⊥
    cell_by f c is there b d = by b d
      where
        is_good : IsGoodNextCell f.derived limits xs kind j f c → ⊥
        is_good x =
            good (subst (λ (o : Option FieldLayout). IsSomeAnd o
            (λ l. IsSomeAnd (held_cell h j) (IsGoodNextCell l.derived limits xs kind j l))) (sym is)
            (subst (λ (o : Option (List ℕ)). IsSomeAnd o (IsGoodNextCell f.derived limits xs kind j f)) (sym there) x))

        is_bad : (reason : Reason) → IsFaultBy f.derived limits xs kind j f c reason → ⊥
        is_bad reason x =
            bad reason (subst (λ (o : Option FieldLayout). IsSomeAnd o
            (λ l. IsSomeAnd (held_cell h j) (λ t. IsFaultBy l.derived limits xs kind j l t reason))) (sym is)
            (subst (λ (o : Option (List ℕ)). IsSomeAnd o (λ t. IsFaultBy f.derived limits xs kind j f t reason)) (sym there) x))

        good_by : (x : Bool) → f.derived ≡ x → IsGoodNextCell x limits xs kind j f c → ⊥
        good_by x e v = is_good (subst (λ (y : Bool). IsGoodNextCell y limits xs kind j f c) (sym e) v)

        bad_by : (x : Bool) → f.derived ≡ x → (reason : Reason) → IsFaultBy x limits xs kind j f c reason → ⊥
        bad_by x e reason v = is_bad reason (subst (λ (y : Bool). IsFaultBy y limits xs kind j f c reason) (sym e) v)

        named : (o : Option Symbol) → o ≡ named_symbol kind j c → f.derived ≡ false → Allows f.ty c → ⊥
        named None e d holds = good_by false d (holds, subst (λ (o : Option Symbol). IfSome o (MayCome limits xs)) e tt)
        named (Some s) e d holds = answered (answer_one limits xs s range.least_transaction g)
          where
            answered : (answer : Result (Unit {0}) Bar) × Answers limits xs s answer → ⊥
            answered (Ok u, a) = good_by false d (holds, subst (λ (o : Option Symbol). IfSome o (MayCome limits xs)) e a)
            answered (Err bar, a) =
                bad_by false d (bar_reason bar) (text_barred limits xs kind j f.ty c s bar (bar_reason bar) holds e a refl)

        by : (x : Bool) → f.derived ≡ x → ⊥
        by true e =
            let n = some_number xs kind j f from is e in
            let belongs : IsNumberAt xs kind j (Some n.0) =
            subst (λ (o : Option ℕ). IsNumberAt xs kind j o) n.1 (number_next xs kind j) in
            either (λ (same : c ≡ digits (length c) n.0). good_by true e (n.0, belongs, same)) (λ other.
            either (λ (holds : Allows f.ty c). bad_by true e (reasons.Number n.0) (n.0, belongs, (refl, holds, other))) (λ unfit.
            bad_by true e (reasons.Cell (fault_of f.ty c)) (n.0, belongs, (unfit, refl))))
        by false e =
            either (λ (holds : Allows f.ty c). named (named_symbol kind j c) refl e holds)
            (λ unfit. bad_by false e (reasons.Cell (fault_of f.ty c)) (unfit, refl))

    at : (o : Option (ℕ × FieldLayout)) → o ≡ field_with_start kind j → ⊥
    at None e = no_field kind j from to (sym e)
    at (Some p) e =
        let c = held_cell_there h kind j p known (sym e) in
        cell_by p.1 c.cell (sym (field_at-start kind j) ∙ ap (option_map (λ (q : ℕ × FieldLayout). q.1)) (sym e)) c.found
        p.1.derived refl

-- ---- a line

-- from a field on whose cells before are good: all are, or one is the first that is wrong
walk : (limits : LimitValues) (xs : List Symbol) (h : HeldLine) (kind : Kind) → AreInRange limits → Continues (IsWithin limits) xs
    → held_kind h ≡ Some kind → MayComeOf limits xs kind
    → (AllGood limits xs h kind → ⊥) → ((field : ℕ) (reason : Reason) → IsFirstWrong limits xs h kind field reason → ⊥)
    → (n j : ℕ) → j + n ≡ length (layout kind) + 1 → 2 ≤ j → GoodBelow limits xs h kind j → ⊥
walk limits xs h kind range g known may done faulty zero j e from good =
    done (λ i two below. good i two (omega (arith, e, below)))
walk limits xs h kind range g known may done faulty (suc n) j e from good =
    good_or_not limits xs h kind j range g known may from (omega (arith, e))
    (λ here. walk limits xs h kind range g known may done faulty n (j + 1) (omega (arith, e)) (omega (arith, from))
    (one_more (IsGoodAt limits xs h kind) j good here))
    (λ reason here. faulty j reason (record { here = cell j reason from may here; before = good }))

-- the line is that of a record that may come next, or it has a first fault
next_or_fault : (limits : LimitValues) (xs : List Symbol) (h : HeldLine) → AreInRange limits → Continues (IsWithin limits) xs
    → ((s : Symbol) (r : RecordValue) → IsNext limits xs h s r → ⊥)
    → ((field : ℕ) (reason : Reason) → IsFirstFault limits xs h field reason → ⊥) → ⊥
next_or_fault limits xs h range g done faulty = by (held_kind h) refl
  where
    of_kind : (kind : Kind) → held_kind h ≡ Some kind → (answer : Result (Unit {0}) Bar) × AnswersKind limits xs kind answer → ⊥
    of_kind kind known (Err bar, a) = faulty 1 (bar_reason bar) (first_barred limits xs h kind bar (bar_reason bar) known a refl)
    of_kind kind known (Ok u, may) =
        walk limits xs h kind range g known may all first (length (fields_after_type kind)) 2 (omega (arith, many)) (omega arith)
        (λ i two below. absurd (omega (arith, two, below)))
      where
        many : length (layout kind) ≡ suc (length (fields_after_type kind))
        many = omega arith

        first : (field : ℕ) (reason : Reason) → IsFirstWrong limits xs h kind field reason → ⊥
        first field reason w = faulty field reason (first_of limits xs h kind field reason known w)

        all : AllGood limits xs h kind → ⊥
        all good =
            first (length (layout kind) + 1) reasons.Excess
            (record { here = past_last may (excess_left limits xs h kind known may good done); before = good })

    by : (o : Option Kind) → held_kind h ≡ o → ⊥
    by None e =
        faulty 1 reasons.UnknownKind
        (subst (λ (o : Option Kind). IsFirstBy o limits xs h 1 reasons.UnknownKind) (sym e) (refl, refl))
    by (Some kind) e = of_kind kind e (answer_kind limits xs kind range.least_transaction g)

-- ---- the lines before

all_more : {X : Type 0} (P : X → Type 0) (xs : List X) (x : X) → AllByRecursion P xs → P x → AllByRecursion P (xs ++ x ∷ [])
all_more P [] x h k = (k, tt)
all_more P (y ∷ xs) x h k = (h.0, all_more P xs x h.1 k)

zip_more : (rows : List Row) (lines : List (List ℕ)) (row : Row) (line : List ℕ) → AllZip IsLineOf rows lines → IsLineOf row line
    → AllZip IsLineOf (rows ++ row ∷ []) (lines ++ line ∷ [])
zip_more [] [] row line z k = (k, tt)
zip_more [] (l ∷ lines) row line z k = absurd z
zip_more (r ∷ rows) [] row line z k = absurd z
zip_more (r ∷ rows) (l ∷ lines) row line z k = (z.0, zip_more rows lines row line z.1 k)

-- records with which a transmission within the limits begins, and whose lines these are
pub record Reads (limits : LimitValues) (lines : List (List ℕ)) : Type 0 where
  pub records : List RecordValue
  pub in_order : AllByRecursion IsRecord records
  pub rows : AllZip IsLineOf (rows_so_far records) lines
  pub begins : Continues (IsWithin limits) (map symbol_of records)

none_read : (limits : LimitValues) → AreInRange limits → Reads limits []
unfolding rows_after
none_read limits range =
    record {
      records = [];
      in_order = tt;
      rows = tt;
      begins = (stands_new limits stages.Start (counts_of []) range stands_start refl).within;
    }

one_more_read : (limits : LimitValues) (lines : List (List ℕ)) (line : List ℕ) (rs : List RecordValue) (r : RecordValue)
    → AllByRecursion IsRecord rs → AllZip IsLineOf (rows_so_far rs) lines → IsRecord r
    → MayCome limits (map symbol_of rs) (symbol_of r)
    → IsLineOf (row_after rs r) line → Reads limits (lines ++ line ∷ [])
one_more_read limits lines line rs r h z k may is = record {
  records = rs ++ r ∷ [];
  in_order = all_more IsRecord rs r h k;
  rows =
      subst (λ (rows : List Row). AllZip IsLineOf rows (lines ++ line ∷ [])) (sym (rows_so_far-snoc rs r))
      (zip_more (rows_so_far rs) lines (row_after rs r) line z is);
  begins = subst (Continues (IsWithin limits)) (sym (map-append symbol_of rs (r ∷ []))) may;
}

-- where something continues from all cells of a line, it is a record's, after those of the lines before
whole_read : (limits : LimitValues) (lines : List (List ℕ)) (line : List ℕ) → NoLf line
    → Viable limits lines line (last_place (line_kind line)) → Reads limits (lines ++ line ∷ [])
whole_read limits lines line no_lf v = by (line_kind line) refl
  where
    by : (o : Option Kind) → line_kind line ≡ o → Reads limits (lines ++ line ∷ [])
    by None e =
        let c = viable_continues limits lines line 0 (subst (λ (o : Option Kind). Viable limits lines line (last_place o)) e v) in
        absurd (cc (sym e ∙ c.front.known))
    by (Some kind) e =
        let last : last_place (Some kind) ≡ suc (length (layout kind)) = omega arith in
        let c =
        viable_continues limits lines line (length (layout kind))
        (subst (Viable limits lines line) (ap last_place e ∙ last) v) in
        let same : c.front.kind ≡ kind = cc (sym c.front.known ∙ e) in
        let l =
        line_record limits (map symbol_of c.records) line (length (layout kind)) no_lf c.front
        (omega (arith, ap (λ (k : Kind). length (layout k)) same)) in
        one_more_read limits lines line c.records l.value c.in_order c.lines l.in_order l.may_come l.is_line

-- ---- lines without line feeds

-- no part between line feeds has one
parts_free : (text : List ℕ) → AllByRecursion NoLf (slice_split is_lf text)
parts_free [] = (refl, tt)
parts_free (b ∷ text) = by (is_lf b) refl (slice_split is_lf text) (parts_free text)
  where
    by : (x : Bool) → is_lf b ≡ x → (parts : List (List ℕ)) → AllByRecursion NoLf parts
        → AllByRecursion NoLf (cond x ([] ∷ parts) (onto_first b parts))
    by true e parts free = (refl, free)
    by false e [] free = (or_from (is_lf b) false e refl, tt)
    by false e (part ∷ parts) free = (or_from (is_lf b) (list_any is_lf part) e free.0, free.1)

first_free : (n : ℕ) (parts : List (List ℕ)) → AllByRecursion NoLf parts → AllByRecursion NoLf (take n parts)
first_free zero parts free = tt
first_free (suc n) [] free = tt
first_free (suc n) (part ∷ parts) free = (free.0, first_free n parts free.1)

there_free : (before : List (List ℕ)) (line : List ℕ) (after : List (List ℕ)) → AllByRecursion NoLf (before ++ line ∷ after)
    → NoLf line
there_free [] line after free = free.0
there_free (other ∷ before) line after free = there_free before line after free.1

line_free : (text : List ℕ) (before : List (List ℕ)) (line : List ℕ) (after : List (List ℕ))
    → raw_lines text ≡ before ++ line ∷ after → NoLf line
line_free text before line after e =
    let parts : List (List ℕ) = slice_split is_lf text in
    there_free before line after (subst (AllByRecursion NoLf) e (first_free (length parts - 1) parts (parts_free text)))

-- the line as it is taken
take_free : (n : ℕ) (line : List ℕ) → NoLf line → NoLf (take n line)
take_free zero line free = refl
take_free (suc n) [] free = refl
take_free (suc n) (b ∷ line) free =
    or_from (is_lf b) (list_any is_lf (take n line)) (or_first (is_lf b) (list_any is_lf line) free)
    (take_free n line (or_second (is_lf b) (list_any is_lf line) free))
  where
    or_first : (x y : Bool) → (x || y) ≡ false → x ≡ false
    or_first true y e = absurd (true≢false e)
    or_first false y e = refl

    or_second : (x y : Bool) → (x || y) ≡ false → y ≡ false
    or_second true y e = absurd (true≢false e)
    or_second false y e = e

record Taken (line : List ℕ) : Type 0 where
  held : HeldLine
  is_held : IsHeld held
  holds : HoldsLine held line

taken : (line : List ℕ) → NoLf line → Taken line
taken line free = by (nat_lt longest_line (length line)) refl
  where
    by : (b : Bool) → nat_lt longest_line (length line) ≡ b → Taken line
    by true e =
        let long : longest_line < length line = ltb-true longest_line (length line) e in
        record {
          held = record { bytes = take longest_line line; ended = Over };
          is_held =
              record {
                no_lf = take_free longest_line line free;
                short = omega (arith, length-take longest_line line);
                full = omega (arith, length-take longest_line line, long);
              };
          holds = (long, refl);
        }
    by false e =
        record {
          held = record { bytes = line; ended = Line };
          is_held = record { no_lf = free; short = ltb-false longest_line (length line) e; full = tt };
          holds = refl;
        }

-- ---- the end

-- a list with a last element
record Snoc (xs : List (List ℕ)) : Type 0 where
  init : List (List ℕ)
  last : List ℕ
  is : xs ≡ init ++ last ∷ []

snoc : (x : List ℕ) (xs : List (List ℕ)) → Snoc (x ∷ xs)
snoc x [] = record { init = []; last = x; is = refl }
snoc x (y ∷ xs) = let s = snoc y xs in record { init = x ∷ s.init; last = s.last; is = ap (λ (l : List (List ℕ)). x ∷ l) s.is }

some_place : (o : Option Kind) → 0 < last_place o
some_place None = omega arith
some_place (Some kind) = omega arith

-- the lines before the first place at which nothing continues are those of records
front_read : (limits : Limits) (text : List ℕ) (i k : ℕ) (before : List (List ℕ)) (line : List ℕ) (after : List (List ℕ))
    → AreInRange limits → IsFirstBad limits text i k → raw_lines (closed text) ≡ before ++ line ∷ after → i ≡ length before + 1
    → (Reads limits before → ⊥) → ⊥
front_read limits text i k [] line after range first lines at read = read (none_read limits range)
front_read limits text i k (other ∷ more) line after range first lines at read =
    either (λ (v : Viable limits s.init s.last (last_place (line_kind s.last))). read (subst (Reads limits) (sym s.is) (whole_read
    limits s.init s.last (line_free (closed text) s.init s.last (line ∷ after) all) v))) (λ never. earlier (first.1 (length
    s.init + 1) (last_place (line_kind s.last))
    (record {
      before = s.init;
      line = s.last;
      after = line ∷ after;
      lines = all;
      at = refl;
      from = some_place (line_kind s.last);
      to = omega arith;
      bad = never;
    })))
  where
    s : Snoc (other ∷ more)
    s = snoc other more

    all : raw_lines (closed text) ≡ s.init ++ s.last ∷ line ∷ after
    all = lines ∙ ap (λ (l : List (List ℕ)). l ++ line ∷ after) s.is ∙ append_assoc s.init (s.last ∷ []) (line ∷ after)

    longer : length (other ∷ more) ≡ length s.init + 1
    longer = ap length s.is ∙ length-append s.init (s.last ∷ [])

    earlier : (i < length s.init + 1) ⊎ ((i ≡ length s.init + 1) × (k ≤ last_place (line_kind s.last))) → ⊥
    earlier (inl h) = omega (arith, h, at, longer)
    earlier (inr h) = omega (arith, h.0, at, longer)

-- the first field that is wrong of the line after the records' is where nothing continues first
same_field : (limits : Limits) (text : List ℕ) (i k : ℕ) (first : IsFirstBad limits text i k) (r : Reads limits first.0.before)
    (h : HeldLine) (field : ℕ) (reason : Reason) → IsCutAs h first.0.line
    → IsFirstFault limits (map symbol_of r.records) h field reason → field ≡ k
same_field limits text i k first r h field reason cut fault = by (held_kind h) refl fault
  where
    xs : List Symbol
    xs = map symbol_of r.records

    of_kind : (kind : Kind) (j l : ℕ) → j ≡ field → l ≡ k → held_kind h ≡ Some kind → IsFirstWrong limits xs h kind j reason
        → j ≡ l
    of_kind kind zero l e f known w = absurd (omega (arith, (wrong_field limits xs h kind zero reason w.here).from))
    of_kind kind (suc m) zero e f known w = absurd (omega (arith, f, first.0.from))
    of_kind kind (suc m) (suc n) e f known w = compared (nat_lt n m) refl
      where
        place : last_place (line_kind first.0.line) ≡ length (layout kind) + 1
        place = ap last_place (sym cut.kind ∙ known)

        bad : IsBadAt limits text i (suc m)
        bad = record {
          before = first.0.before;
          line = first.0.line;
          after = first.0.after;
          lines = first.0.lines;
          at = first.0.at;
          from = omega arith;
          to = omega (arith, place, (wrong_field limits xs h kind (suc m) reason w.here).to);
          bad =
              λ v. none_at_fault limits xs h first.0.line kind m reason cut known w.here
              (viable_front limits r.records first.0.before first.0.line m r.in_order r.rows v);
        }

        least : (i < i) ⊎ ((i ≡ i) × (k ≤ suc m)) → k ≤ suc m
        least (inl late) = absurd (omega (arith, late))
        least (inr both) = both.1

        compared : (b : Bool) → nat_lt n m ≡ b → suc m ≡ suc n
        compared true c =
            let early : n < m = ltb-true n m c in
            absurd (first.0.bad
            (subst (Viable limits first.0.before first.0.line) f (continuing_viable limits first.0.before first.0.line n
            (record {
              records = r.records;
              in_order = r.in_order;
              lines = r.rows;
              front = front_before limits xs h first.0.line kind (suc m) reason n cut known w (omega (arith, early));
            }))))
        compared false c = omega (arith, ltb-false n m c, least (first.1 i (suc m) bad), f)

    by : (o : Option Kind) → held_kind h ≡ o → IsFirstBy o limits xs h field reason → field ≡ k
    by None known w = omega (arith, w.0, first.0.from, first.0.to, ap last_place (sym cut.kind ∙ known))
    by (Some kind) known w = of_kind kind field k refl refl known w

-- where no refusal is the text's, nothing is bad first
nowhere_first : (limits : Limits) (text : List ℕ) → AreInRange limits → IsNotAccepted limits text
    → IsNotRefused limits text → (i k : ℕ) → ¬ IsFirstBad limits text i k
nowhere_first limits text range unaccepted none i k first =
    front_read limits text i k first.0.before first.0.line first.0.after range first first.0.lines first.0.at after_front
  where
    before : List (List ℕ)
    before = first.0.before

    line : List ℕ
    line = first.0.line

    free : NoLf line
    free = line_free (closed text) before line first.0.after first.0.lines

    t : Taken line
    t = taken line free

    cut : IsCutAs t.held line
    cut = held_line_is_cut t.held line t.is_held t.holds

    comes : (r : Reads limits before) (s : Symbol) (q : RecordValue) → IsNext limits (map symbol_of r.records) t.held s q → ⊥
    comes r s q n =
        let is = next_is_line limits (map symbol_of r.records) t.held line s q t.is_held t.holds free n in
        let more =
        one_more_read limits before line r.records q r.in_order r.rows n.in_order
        (subst (MayCome limits (map symbol_of r.records)) (sym n.symbol) n.may_come) is in
        first.0.bad (accepted_viable limits more.records before line [] k more.in_order more.rows more.begins)

    refused : (r : Reads limits before) (field : ℕ) (reason : Reason)
        → IsFirstFault limits (map symbol_of r.records) t.held field reason → ⊥
    refused r field reason fault =
        let why = first_reason limits r.records before t.held line field reason r.in_order r.rows cut fault in
        let same : field ≡ k = same_field limits text i k first r t.held field reason cut fault in
        none (record {
          rec = i;
          field = k;
          level = level_of (line_kind line) k reason (scope_after_kind (last_kind before));
          reason = reason;
        }) (record {
          unaccepted = unaccepted;
          first = first;
          before = before;
          line = line;
          after = first.0.after;
          lines = first.0.lines;
          at = first.0.at;
          reason = subst (λ (j : ℕ). IsReason limits before line j reason) same why;
          level = refl;
        })

    after_front : Reads limits before → ⊥
    after_front r = next_or_fault limits (map symbol_of r.records) t.held range r.begins (comes r) (refused r)

-- a text that is neither accepted nor refused is truncated
pub each_end : (limits : Limits) (text : List ℕ) → AreInRange limits → IsNotAccepted limits text
    → IsNotRefused limits text → IsTruncated limits text (length (raw_lines (closed text)))
each_end limits text range unaccepted none = some_end limits text unaccepted (nowhere_first limits text range unaccepted none)
