-- A text that ends in the middle of HDR's last date is refused at that date.
use Rattle.std.proofs.Common.{◌≡◌, ℕ, zero, suc, ◌+◌, ◌<◌, ◌≤◌, List, [], ◌∷◌, ◌++◌, length, take, drop, replicate, refl, sym, ap}
use Rattle.std.proofs.Common.{subst, subst₂, ◌∙◌, inr, lit<, lit≤, arith, append_assoc}
use Rattle.std.specs.Prelude.{codes, ◌⊎◌, Some, None, slice_index_or}
use Rattle.std.specs.List.{AllZip}
use Rattle.std.proofs.lemmas.Int.{ints}
use Rattle.cwr_fields.specs.declared.cell_types.CellType.TheVariants.{Date}
use Rattle.cwr_fields.specs.declared.cell_types.CellFault.TheVariants.{NotADate}
use Rattle.cwr_fields.specs.Format.Bytes.{digits}
use Rattle.cwr_fields.specs.Format.Cells.{Allows}
use Rattle.cwr_fields.proofs.lemmas.NumbersInParts.{day_of_parts}
use Rattle.cwr_fields.proofs.lemmas.LineFeeds.{NoLf}
use Rattle.cwr_fields.specs.declared.kinds.Kind.{Kind}
use Rattle.cwr_fields.specs.declared.kinds.Kind.TheVariants as kinds
use Rattle.cwr_fields.specs.Format.Kinds.{letters}
use Rattle.cwr_fields.specs.Format.Layouts.{cell, fields_after_type}
use Rattle.cwr_lines.specs.Format.Records.{RecordValue, IsRecord, IsCellOf, Row, row_of, row_cells, carried_fields}
use Rattle.cwr_lines.specs.Format.Lines.{IsLineOf, line_cells}
use Rattle.cwr_lines.proofs.lemmas.RowLaws.{IsRow-row_of}
use Rattle.cwr_lines.proofs.lemmas.LineLaws.{first_line, lines_text}
use Rattle.cwr_lines.proofs.lemmas.CutLaws.{line_is_cut}
use Rattle.cwr_shape.specs.declared.symbols.Symbol.TheVariants.{Plain}
use Rattle.cwr_shape.specs.declared.reasons.Reason.{Reason}
use Rattle.cwr_shape.specs.declared.reasons.Reason.TheVariants.{UnknownKind, Misplaced, Cell, Number, Limit, Excess}
use Rattle.cwr_shape.specs.declared.limits.LimitKind.TheVariants as limit_kinds
use Rattle.cwr_shape.specs.declared.reasons.Level.TheVariants.{E}
use Rattle.cwr_values.specs.Format.Values.{TransmissionValue, IsTransmission, outline_of}
use Rattle.cwr_values.specs.Format.Rows.{rows, Spells}
use Rattle.cwr_values.proofs.lemmas.OneSpelling.{outline_whole}
use Rattle.cwr_judge.specs.Format.Places.{Viable, IsBadAt, IsFirstBad}
use Rattle.cwr_judge.specs.Format.Reasons.{Applies, rank}
use Rattle.cwr_judge.specs.Format.Ends.{IsAccepted, IsRefused}
use Rattle.cwr_tools_tests.proofs.Samples
use Rattle.cwr_tools_tests.proofs.WorkedTransmissions.{largest, one_acknowledgement_whole, one_acknowledgement_within}

-- 80 bytes of HDR
abbrev line_80 : List ℕ
line_80 = codes "HDRPB123456789MUSIC HOUSE" ++ replicate 34 32 ++ codes "01.10202401021015002" ++ codes "0"

line_80_length : length line_80 ≡ 80
line_80_length = refl

no_date : ¬ Allows Date (codes "20      ")
no_date s = let parts = day_of_parts (codes "20      ") s in omega (arith, ints, parts.1)

bad_cells : (cells : List (List ℕ)) → AllZip IsCellOf (carried_fields kinds.Hdr) cells
    → take 8 (letters kinds.Hdr ∷ row_cells (fields_after_type kinds.Hdr) [] cells) ≡ take 8 (line_cells line_80) → ⊥
bad_cells [] h e = h
bad_cells (c2 ∷ []) h e = h.1
bad_cells (c2 ∷ c3 ∷ []) h e = h.1.1
bad_cells (c2 ∷ c3 ∷ c4 ∷ []) h e = h.1.1.1
bad_cells (c2 ∷ c3 ∷ c4 ∷ c5 ∷ []) h e = h.1.1.1.1
bad_cells (c2 ∷ c3 ∷ c4 ∷ c5 ∷ c6 ∷ []) h e = h.1.1.1.1.1
bad_cells (c2 ∷ c3 ∷ c4 ∷ c5 ∷ c6 ∷ c7 ∷ []) h e = h.1.1.1.1.1.1
bad_cells (c2 ∷ c3 ∷ c4 ∷ c5 ∷ c6 ∷ c7 ∷ c8 ∷ rest) h e =
    let same : c8 ≡ codes "20      " = ap (λ (xs : List (List ℕ)). slice_index_or xs 7 []) e in
    no_date (subst (Allows Date) same h.1.1.1.1.1.1.0.1)

bad_record : (r : RecordValue) → r.kind ≡ kinds.Hdr → IsRecord r → take 8 (row_of [] r).cells ≡ take 8 (line_cells line_80) → ⊥
bad_record r e h same =
    let P : Kind → Type 0 =
    λ k. AllZip IsCellOf (carried_fields k) r.cells
    → take 8 (letters k ∷ row_cells (fields_after_type k) [] r.cells) ≡ take 8 (line_cells line_80) → ⊥ in
    subst P (sym e) (bad_cells r.cells) h same

-- the first line of what is spelled
first_spelled : (v : TransmissionValue) (line front rest : List ℕ) → IsTransmission v → NoLf line → Spells v front
    → line ++ 10 ∷ [] ≡ front ++ rest → IsLineOf (row_of [] v.opening) line
unfolding rows
first_spelled v line front rest h no_lf s e = by s.0 s.1 s.2
  where
    by : (lines : List (List ℕ)) → AllZip IsLineOf (rows v) lines → front ≡ lines_text lines → IsLineOf (row_of [] v.opening) line
    by [] z t = absurd z
    by (k ∷ ks) z t =
        let whole : line ++ 10 ∷ [] ≡ k ++ 10 ∷ (lines_text ks ++ rest) =
        e ∙ ap (λ (x : List ℕ). x ++ rest) t ∙ append_assoc (k ++ 10 ∷ []) (lines_text ks) rest
        ∙ append_assoc k (10 ∷ []) (lines_text ks ++ rest) in
        subst (IsLineOf (row_of [] v.opening)) (sym (first_line line k [] (lines_text ks ++ rest) no_lf z.0.0 whole).0) z.0

not_accepted : (v : TransmissionValue) (n : ℕ) → ¬ IsAccepted largest line_80 v n
not_accepted v n a =
    let line = first_spelled v line_80 a.front a.rest a.whole refl a.spelled a.split in
    let cut = line_is_cut (row_of [] v.opening) line_80 (IsRow-row_of [] v.opening a.whole.opening.1) line in
    bad_record v.opening a.whole.opening.0 a.whole.opening.1 (ap (take 8) (sym cut.cells))

not_viable : ¬ Viable largest [] line_80 8
unfolding rows
not_viable w = by w.front w.lines w.split
  where
    by : (front : List Row) → AllZip IsLineOf front [] → rows w.value ≡ front ++ w.next ∷ w.rest → ⊥
    by (r ∷ front) z e = absurd z
    by [] z e =
        let first : row_of [] w.value.opening ≡ w.next = cc e in
        bad_record w.value.opening w.whole.opening.0 w.whole.opening.1 (ap (λ (r : Row). take 8 r.cells) first ∙ w.cells.0)

viable_to : (k : ℕ) → take k (row_of [] Samples.h).cells ≡ take k (line_cells line_80) → k ≤ 9 → Viable largest [] line_80 k
unfolding digits rows
viable_to k e h = record {
  value = Samples.one_acknowledgement;
  whole = one_acknowledgement_whole;
  within = one_acknowledgement_within;
  front = [];
  next = row_of [] Samples.h;
  rest = drop 1 (rows Samples.one_acknowledgement);
  split = refl;
  lines = tt;
  cells = (e, λ lt. absurd (omega (arith, h, lt)));
}

viable_before : (k : ℕ) → 0 < k → k < 8 → Viable largest [] line_80 k
unfolding digits
viable_before zero f t = absurd (omega arith)
viable_before (suc zero) f t = viable_to 1 refl (lit≤ tt)
viable_before (suc (suc zero)) f t = viable_to 2 refl (lit≤ tt)
viable_before (suc (suc (suc zero))) f t = viable_to 3 refl (lit≤ tt)
viable_before (suc (suc (suc (suc zero)))) f t = viable_to 4 refl (lit≤ tt)
viable_before (suc (suc (suc (suc (suc zero))))) f t = viable_to 5 refl (lit≤ tt)
viable_before (suc (suc (suc (suc (suc (suc zero)))))) f t = viable_to 6 refl (lit≤ tt)
viable_before (suc (suc (suc (suc (suc (suc (suc zero))))))) f t = viable_to 7 refl (lit≤ tt)
viable_before (suc (suc (suc (suc (suc (suc (suc (suc k)))))))) f t = absurd (omega arith)

only_line : (before : List (List ℕ)) (line : List ℕ) (after : List (List ℕ)) → line_80 ∷ [] ≡ before ++ line ∷ after
    → (before ≡ []) × (line ≡ line_80)
only_line [] line after e = (refl, sym (ap (λ (xs : List (List ℕ)). slice_index_or xs 0 []) e))
only_line (b ∷ []) line after e = absurd (no_second line after (ap (drop 1) e))
  where
    no_second : (l : List ℕ) (ls : List (List ℕ)) → [] ≡ l ∷ ls → ⊥
    no_second l ls h = cc h
only_line (b ∷ c ∷ before) line after e = absurd (no_second c (before ++ line ∷ after) (ap (drop 1) e))
  where
    no_second : (l : List ℕ) (ls : List (List ℕ)) → [] ≡ l ∷ ls → ⊥
    no_second l ls h = cc h

first_bad : IsFirstBad largest line_80 1 8
first_bad = (
  record { before = []; line = line_80; after = []; lines = refl; at = refl; from = lit< tt; to = lit≤ tt; bad = not_viable },
  λ j l b. later j l b (only_line b.before b.line b.after b.lines),
)
  where
    later : (j l : ℕ) (b : IsBadAt largest line_80 j l) → (b.before ≡ []) × (b.line ≡ line_80) → (1 < j) ⊎ ((1 ≡ j) × (8 ≤ l))
    later j l b e =
        let here : j ≡ 1 = b.at ∙ ap (λ (xs : List (List ℕ)). length xs + 1) e.0 in
        inr (
          sym here,
          not_less l (λ lt. b.bad (subst₂ (λ (xs : List (List ℕ)) (x : List ℕ). Viable largest xs x l) (sym e.0)
              (sym e.1) (viable_before l b.from lt))),
        )
      where
        not_less : (m : ℕ) → (m < 8 → ⊥) → 8 ≤ m
        not_less m h = omega (arith, h)

reasons_after : (r : Reason) → Applies largest [] line_80 8 r → 3 ≤ rank r
reasons_after UnknownKind h = absurd (some_none h)
  where
    some_none : Some kinds.Hdr ≡ None → ⊥
    some_none e = cc e
reasons_after Misplaced h =
    absurd (h (
      outline_of Samples.one_acknowledgement,
      outline_whole Samples.one_acknowledgement one_acknowledgement_whole,
      tt,
      (Plain kinds.Hdr ∷ [], _, refl, ((0, (lit< tt, refl)), tt)),
    ))
reasons_after (Cell f) h = lit≤ tt
reasons_after (Number n) h = lit≤ tt
reasons_after (Limit limit_kinds.Records) h = lit≤ tt
reasons_after (Limit limit_kinds.Groups) h = lit≤ tt
reasons_after (Limit limit_kinds.Transaction) h = lit≤ tt
reasons_after Excess h = lit≤ tt

cut_in_date : IsRefused largest line_80 (record { rec = 1; field = 8; level = E; reason = Cell NotADate })
cut_in_date = record {
  unaccepted = not_accepted;
  first = first_bad;
  before = [];
  line = line_80;
  after = [];
  lines = refl;
  at = refl;
  reason = ((cell "transmission date" 8 Date, refl, (no_date, refl)), reasons_after);
  level = refl;
}
