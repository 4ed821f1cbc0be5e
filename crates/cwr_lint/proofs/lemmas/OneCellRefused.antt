-- A text that differs from a good one in one derived cell is neither accepted nor truncated.
use Rattle.std.proofs.Common.{◌≡◌, ℕ, ◌+◌, List, [], ◌∷◌, ◌++◌, length, map, take, refl, sym, ap, subst, ◌∙◌, arith, inl, inr}
use Rattle.std.proofs.Common.{append_assoc, append-nil}
use Rattle.std.specs.Prelude.{◌⊎◌}
use Rattle.std.specs.List.{AllZip}
use Rattle.std.proofs.lemmas.Grind.{flat_map-append}
use Rattle.std.proofs.lemmas.List.{length-append}
use Rattle.cwr_lines.specs.Format.Lines.{IsLineOf}
use Rattle.cwr_lines.specs.Format.Records.{Row}
use Rattle.cwr_lines.proofs.lemmas.CutLaws.{IsCutInto, line_is_cut}
use Rattle.cwr_lines.proofs.lemmas.LineLaws.{lines_agree, lines_text}
use Rattle.cwr_lines.proofs.lemmas.RowLaws.{IsRow-row_of}
use Rattle.cwr_shape.specs.declared.limits.Limits.{Limits}
use Rattle.cwr_values.specs.Format.Begins.{numbers_after, row_after}
use Rattle.cwr_values.specs.Format.Rows.{rows}
use Rattle.cwr_values.specs.Format.Values.{TransmissionValue, IsTransmission, FitsIn, symbol_of}
use Rattle.cwr_values.proofs.lemmas.OneSpelling.{spelled_once}
use Rattle.cwr_judge.specs.Format.Ends.{IsAccepted}
use Rattle.cwr_judge.specs.Format.Places.{Viable}
use Rattle.cwr_judge.proofs.lemmas.LineRecords.{as_many}
use Rattle.cwr_judge.proofs.lemmas.RecordsBefore.{Before, records_before}
use Rattle.cwr_lint.specs.Format.OneCells.{OneCellIsRefused}
use Rattle.cwr_lint.proofs.lemmas.OtherPlaces.{CutRows, OtherPlace, all_lines, cut_rows, no_feeds, other_place}

-- a transmission continues from each of its lines
viable_at : (limits : Limits) (v : TransmissionValue) (before : List (List ℕ)) (line : List ℕ) (after : List (List ℕ)) (k : ℕ)
    → IsTransmission v → FitsIn limits v → AllZip IsLineOf (rows v) (before ++ line ∷ after) → Viable limits before line k
viable_at limits v before line after k whole within z =
    record {
      value = v;
      whole = whole;
      within = within;
      front = cut.front;
      next = cut.at;
      rest = cut.rest;
      split = cut.split;
      lines = cut.front_lines;
      cells = (ap (λ (r : Row). take k r.cells) (sym b.next_is) ∙ ap (take k) (sym row_cut.cells), λ far. row_cut.excess);
    }
  where
    cut : CutRows (rows v) before line after
    cut = cut_rows (rows v) before line after z

    b : Before v cut.front cut.at
    b = records_before v cut.front cut.at cut.rest whole cut.split

    row_cut : IsCutInto line (row_after b.records b.at)
    row_cut =
        line_is_cut (row_after b.records b.at) line
        (IsRow-row_of (numbers_after (map symbol_of b.records) b.at.kind) b.at b.at_in_order)
        (subst (λ (r : Row). IsLineOf r line) (sym b.next_is) cut.line_of)

-- lines that begin others up to one and from it on, or end before it
halves : (before ls more after : List (List ℕ)) (wrong : List ℕ) → before ++ wrong ∷ after ≡ ls ++ more
    → ((m : List (List ℕ)) × (ls ≡ before ++ wrong ∷ m)) ⊎ ((m : List (List ℕ)) × (before ≡ ls ++ m))
halves before [] more after wrong e = inr (before, refl)
halves [] (l ∷ ls) more after wrong e = let first : wrong ≡ l = cc e in inl (ls, ap (λ (y : List ℕ). y ∷ ls) (sym first))
halves (b ∷ before) (l ∷ ls) more after wrong e =
    let rest : before ++ wrong ∷ after ≡ ls ++ more = cc e in
    let first : b ≡ l = cc e in
    by first (halves before ls more after wrong rest)
  where
    by : b ≡ l → ((m : List (List ℕ)) × (ls ≡ before ++ wrong ∷ m)) ⊎ ((m : List (List ℕ)) × (before ≡ ls ++ m))
        → ((m : List (List ℕ)) × (l ∷ ls ≡ b ∷ before ++ wrong ∷ m)) ⊎ ((m : List (List ℕ)) × (b ∷ before ≡ l ∷ ls ++ m))
    by f (inl h) = inl (h.0, λ i. sym f i ∷ h.1 i)
    by f (inr h) = inr (h.0, λ i. f i ∷ h.1 i)

-- no transmission's lines begin another's, and end before it does
no_shorter : (v w : TransmissionValue) (ls more : List (List ℕ)) (line : List ℕ) → IsTransmission v → IsTransmission w
    → AllZip IsLineOf (rows v) ls → AllZip IsLineOf (rows w) (ls ++ line ∷ more) → ⊥
no_shorter v w ls more line h j p q =
    let same =
    spelled_once v w (lines_text ls) (lines_text (ls ++ line ∷ more)) (lines_text (line ∷ more)) [] h j (ls, p, refl)
    (ls ++ line ∷ more, q, refl)
    (sym (flat_map-append (λ (l : List ℕ). l ++ 10 ∷ []) ls (line ∷ more)) ∙ sym (append-nil (lines_text (ls ++ line ∷ more)))) in
    let there : length ls ≡ length (rows v) = as_many (rows v) ls p in
    let here : length (ls ++ line ∷ more) ≡ length (rows w) = as_many (rows w) (ls ++ line ∷ more) q in
    let rows_same : length (rows v) ≡ length (rows w) = ap (λ (x : TransmissionValue). length (rows x)) same.0 in
    omega (arith, there, here, rows_same, length-append ls (line ∷ more))

pub one_cell_refused : OneCellIsRefused
one_cell_refused limits text before wrong kind k d =
    (λ v n a. unaccepted v n a, λ n t. t.nowhere (length before + 1) k place.first.0)
  where
    place : OtherPlace limits text before wrong kind k d
    place = other_place limits text before wrong kind k d

    unaccepted : (v : TransmissionValue) (n : ℕ) → IsAccepted limits text v n → ⊥
    unaccepted v n a =
        by (lines_agree a.spelled.0 (before ++ wrong ∷ d.after) a.rest d.rest (no_feeds (rows v) a.spelled.0
        a.spelled.1) (all_lines before (wrong ∷ d.after) (no_feeds place.cut.front before place.cut.front_lines)
        (d.no_lf, no_feeds place.cut.rest d.after place.cut.rest_lines))
        (ap (λ (t : List ℕ). t ++ a.rest) (sym a.spelled.2) ∙ sym a.split ∙ d.text_is))
      where
        with_line : (m : List (List ℕ)) → a.spelled.0 ≡ before ++ wrong ∷ m → ⊥
        with_line m e =
            place.not_viable
            (viable_at limits v before wrong m k a.whole a.within (subst (AllZip IsLineOf (rows v)) e a.spelled.1))

        shorter : (m : List (List ℕ)) → before ≡ a.spelled.0 ++ m → ⊥
        shorter m e =
            by_more m (subst (AllZip IsLineOf (rows d.value))
            (ap (λ (b : List (List ℕ)). b ++ d.right ∷ d.after) e ∙ append_assoc a.spelled.0 m (d.right ∷ d.after)) d.lines)
          where
            by_more : (m : List (List ℕ)) → AllZip IsLineOf (rows d.value) (a.spelled.0 ++ (m ++ d.right ∷ d.after)) → ⊥
            by_more [] z = no_shorter v d.value a.spelled.0 d.after d.right a.whole d.whole a.spelled.1 z
            by_more (x ∷ m) z = no_shorter v d.value a.spelled.0 (m ++ d.right ∷ d.after) x a.whole d.whole a.spelled.1 z

        by : ((more : List (List ℕ)) × (before ++ wrong ∷ d.after ≡ a.spelled.0 ++ more) × (a.rest ≡ lines_text more ++ d.rest)) ⊎
            ((more : List (List ℕ)) × (a.spelled.0 ≡ (before ++ wrong ∷ d.after) ++ more) × (d.rest ≡ lines_text more ++ a.rest))
            → ⊥
        by (inr h) = with_line (d.after ++ h.0) (h.1 ∙ append_assoc before (wrong ∷ d.after) h.0)
        by (inl h) = at (halves before a.spelled.0 h.0 d.after wrong h.1)
          where
            at : ((m : List (List ℕ)) × (a.spelled.0 ≡ before ++ wrong ∷ m)) ⊎ ((m : List (List ℕ)) × (before ≡ a.spelled.0 ++ m))
                → ⊥
            at (inl g) = with_line g.0 g.1
            at (inr g) = shorter g.0 g.1
