-- A line that is that of no record that may come next is first bad at the field that is reported, after lines that were accepted.
use Rattle.std.proofs.Common.{◌≡◌, ℕ, zero, suc, ◌+◌, ◌<◌, ◌≤◌, List, [], ◌∷◌, ◌++◌, length, map, refl, sym, ap, ap₂, subst, ◌∙◌}
use Rattle.std.proofs.Common.{arith}
use Rattle.std.specs.Prelude.{Option, Some, None}
use Rattle.std.specs.List.{AllZip}
use Rattle.cwr_fields.specs.declared.kinds.Kind.{Kind}
use Rattle.cwr_lines.specs.Format.Records.{RecordValue}
use Rattle.cwr_lines.specs.Format.Lines.{IsLineOf, line_kind, closed, raw_lines}
use Rattle.cwr_lines.specs.Steps.Held.{HeldLine, IsHeld, HoldsLine, IsCutAs, held_kind}
use Rattle.cwr_lines.proofs.lemmas.HeldLaws.{held_line_is_cut}
use Rattle.cwr_shape.specs.declared.symbols.Symbol.{Symbol}
use Rattle.cwr_shape.specs.declared.reasons.Reason.{Reason}
use Rattle.cwr_shape.specs.Format.Ranges.{LimitValues}
use Rattle.cwr_shape.specs.Steps.Tallies.{TallyValue}
use Rattle.cwr_values.specs.Format.Values.{symbol_of}
use Rattle.cwr_values.specs.Format.Begins.{rows_so_far}
use Rattle.cwr_judge.specs.Format.Places.{Viable, IsBadAt, IsFirstBad, last_place}
use Rattle.cwr_judge.specs.Format.GoodFronts.{HasGoodFront}
use Rattle.cwr_judge.specs.Steps.Judged.{IsFirstBy, IsFirstFault, IsWrongAt}
use Rattle.cwr_decode.specs.Steps.Represents.{AreAccepted}
use Rattle.cwr_judge.proofs.lemmas.AcceptedViable.{accepted_viable}
use Rattle.cwr_judge.proofs.lemmas.FrontsBeforeFaults.{wrong_field, front_before}
use Rattle.cwr_judge.proofs.lemmas.NoneAtFaults.{none_at_fault}
use Rattle.cwr_judge.proofs.lemmas.OneEnd.{same_line}
use Rattle.cwr_judge.proofs.lemmas.SomeEnd.{is_first}
use Rattle.cwr_judge.proofs.lemmas.ViableCells.{viable_front, continuing_viable}

-- the fronts of a line: those before the field are good, and that up to the field isn't
record Fronts (limits : LimitValues) (xs : List Symbol) (line : List ℕ) (field : ℕ) : Type 0 where
  from : 0 < field
  to : field ≤ last_place (line_kind line)
  before : (m : ℕ) → suc m < field → HasGoodFront limits xs line m
  bad : (m : ℕ) → field ≡ suc m → HasGoodFront limits xs line m → ⊥

fronts_by : (limits : LimitValues) (xs : List Symbol) (h : HeldLine) (line : List ℕ) (field : ℕ) (reason : Reason)
    (o : Option Kind) → IsCutAs h line → held_kind h ≡ o → IsFirstBy o limits xs h field reason
    → Fronts limits xs line field
fronts_by limits xs h line field reason None cut known w =
    let none : line_kind line ≡ None = sym cut.kind ∙ known in
    record {
      from = omega (arith, w.0);
      to = subst (λ (o : Option Kind). field ≤ last_place o) (sym none) (omega (arith, w.0));
      before = λ m early. absurd (omega (arith, early, w.0));
      bad = λ m e g. no_kind g.kind (sym none ∙ g.known);
    }
  where
    no_kind : (kind : Kind) → None ≡ Some kind → ⊥
    no_kind kind e = cc e
fronts_by limits xs h line field reason (Some kind) cut known w =
    let here = wrong_field limits xs h kind field reason w.here in
    let kind_is : line_kind line ≡ Some kind = sym cut.kind ∙ known in
    record {
      from = here.from;
      to = subst (λ (o : Option Kind). field ≤ last_place o) (sym kind_is) here.to;
      before = λ m early. front_before limits xs h line kind field reason m cut known w early;
      bad =
          λ m e g. none_at_fault limits xs h line kind m reason cut known
          (subst (λ (n : ℕ). IsWrongAt limits xs h kind n reason) e w.here) g;
    }

-- Each place in the lines, and each before the field of the last one, continues, and that field doesn't.
pub record StopsAt (limits : LimitValues) (lines : List (List ℕ)) (line : List ℕ) (field : ℕ) : Type 0 where
  pub from : 0 < field
  pub to : field ≤ last_place (line_kind line)
  pub earlier : (before : List (List ℕ)) (other : List ℕ) (after : List (List ℕ)) (k : ℕ) → lines ≡ before ++ other ∷ after
      → Viable limits before other k
  pub before : (k : ℕ) → 0 < k → k < field → Viable limits lines line k
  pub bad : Viable limits lines line field → ⊥

pub stops_at : (tally : TallyValue) (lines : List (List ℕ)) (records : List RecordValue) (h : HeldLine) (line : List ℕ)
    (field : ℕ) (reason : Reason) → AreAccepted tally lines records → IsHeld h → HoldsLine h line
    → IsFirstFault tally.limits (map symbol_of records) h field reason → StopsAt tally.limits lines line field
stops_at tally lines records h line field reason read held holds first =
    let f =
    fronts_by tally.limits (map symbol_of records) h line field reason (held_kind h) (held_line_is_cut h line held holds) refl
    first in
    record {
      from = f.from;
      to = f.to;
      earlier =
          λ before other after k e. accepted_viable tally.limits records before other after k read.in_order
          (subst (λ (ls : List (List ℕ)). AllZip IsLineOf (rows_so_far records) ls) e read.rows) read.counted.within;
      before = λ k from early. viable_at k from early f;
      bad = λ v. bad_at field refl f v;
    }
  where
    viable_at : (k : ℕ) → 0 < k → k < field → Fronts tally.limits (map symbol_of records) line field
        → Viable tally.limits lines line k
    viable_at zero from early f = absurd (omega (arith, from))
    viable_at (suc m) from early f =
        continuing_viable tally.limits lines line m
        (record { records = records; in_order = read.in_order; lines = read.rows; front = f.before m early })

    bad_at : (k : ℕ) → field ≡ k → Fronts tally.limits (map symbol_of records) line field → Viable tally.limits lines line field
        → ⊥
    bad_at zero e f v = absurd (omega (arith, e, f.from))
    bad_at (suc m) e f v =
        f.bad m e (viable_front tally.limits records lines line m read.in_order read.rows
        (subst (λ (n : ℕ). Viable tally.limits lines line n) e v))

-- ---- in a text

-- what stands before a line that comes earlier begins what stands before the other
record Earlier (xs ys : List (List ℕ)) (a : List ℕ) : Type 0 where
  rest : List (List ℕ)
  are : ys ≡ xs ++ a ∷ rest

earlier_line : (xs ys : List (List ℕ)) (a b : List ℕ) (us vs : List (List ℕ)) → length xs < length ys
    → xs ++ a ∷ us ≡ ys ++ b ∷ vs → Earlier xs ys a
earlier_line xs [] a b us vs l e = absurd (omega (arith, l))
earlier_line [] (y ∷ ys) a b us vs l e =
    let first : a ≡ y = cc e in
    record { rest = ys; are = ap (λ (z : List ℕ). z ∷ ys) (sym first) }
earlier_line (x ∷ xs) (y ∷ ys) a b us vs l e =
    let first : x ≡ y = cc e in
    let same_tail : xs ++ a ∷ us ≡ ys ++ b ∷ vs = cc e in
    let r = earlier_line xs ys a b us vs (omega (arith, l)) same_tail in
    record { rest = r.rest; are = ap₂ (λ (z : List ℕ) (zs : List (List ℕ)). z ∷ zs) (sym first) r.are }

-- in a text of these lines that is the first bad place
pub first_bad : (limits : LimitValues) (text : List ℕ) (lines : List (List ℕ)) (line : List ℕ) (after : List (List ℕ)) (field : ℕ)
    → raw_lines (closed text) ≡ lines ++ line ∷ after → StopsAt limits lines line field
    → IsFirstBad limits text (length lines + 1) field
first_bad limits text lines line after field e s =
    is_first limits text (length lines + 1) field
    (record { before = lines; line = line; after = after; lines = e; at = refl; from = s.from; to = s.to; bad = s.bad })
    earlier fields
  where
    earlier : (j : ℕ) → j < length lines + 1 → (l : ℕ) → ¬ IsBadAt limits text j l
    earlier j early l b =
        let r = earlier_line b.before lines b.line line b.after after (omega (arith, early, b.at)) (sym b.lines ∙ e) in
        b.bad (s.earlier b.before b.line r.rest l r.are)

    fields : (l : ℕ) → l < field → ¬ IsBadAt limits text (length lines + 1) l
    fields l early b =
        let same = same_line lines b.before line b.line after b.after (omega (arith, b.at)) (sym e ∙ b.lines) in
        b.bad (subst (λ (ls : List (List ℕ)). Viable limits ls b.line l) same.0
        (subst (λ (x : List ℕ). Viable limits lines x l) same.1 (s.before l b.from early)))
