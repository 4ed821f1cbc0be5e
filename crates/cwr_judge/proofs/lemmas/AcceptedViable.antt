-- Some transmission within the limits continues from each place in the lines that were accepted.
use Rattle.std.proofs.Common.{◌≡◌, ℕ, List, [], ◌∷◌, ◌++◌, map, take, refl, sym, ap, subst, ◌∙◌, append_assoc}
use Rattle.std.specs.List.{AllZip, AllByRecursion}
use Rattle.cwr_lines.specs.Format.Records.{RecordValue, Row, IsRecord, IsRow}
use Rattle.cwr_lines.specs.Format.Lines.{IsLineOf}
use Rattle.cwr_lines.proofs.lemmas.CutLaws.{line_is_cut}
use Rattle.cwr_shape.specs.Format.Ranges.{LimitValues}
use Rattle.cwr_shape.specs.Format.Outlines.{IsWithin, Continues}
use Rattle.cwr_values.specs.Format.Values.{symbol_of}
use Rattle.cwr_values.specs.Format.Begins.{rows_after, rows_so_far}
use Rattle.cwr_values.proofs.lemmas.Witnesses.{completed}
use Rattle.cwr_values.proofs.lemmas.RowAt.{rows_split}
use Rattle.cwr_judge.specs.Format.Places.{Viable}
use Rattle.cwr_judge.proofs.lemmas.RecordsBefore.{rows_well}

-- rows of lines, cut at that of one line
record CutRows (rows : List Row) (before : List (List ℕ)) (line : List ℕ) : Type 0 where
  front : List Row
  at : Row
  rest : List Row
  split : rows ≡ front ++ at ∷ rest
  front_lines : AllZip IsLineOf front before
  line_of : IsLineOf at line

cut_rows : (rows : List Row) (before : List (List ℕ)) (line : List ℕ) (after : List (List ℕ))
    → AllZip IsLineOf rows (before ++ line ∷ after) → CutRows rows before line
cut_rows [] [] line after z = absurd z
cut_rows [] (b ∷ before) line after z = absurd z
cut_rows (r ∷ rows) [] line after z = record { front = []; at = r; rest = rows; split = refl; front_lines = tt; line_of = z.0 }
cut_rows (r ∷ rows) (b ∷ before) line after z =
    let c = cut_rows rows before line after z.1 in
    record {
      front = r ∷ c.front;
      at = c.at;
      rest = c.rest;
      split = ap (λ (l : List Row). r ∷ l) c.split;
      front_lines = (z.0, c.front_lines);
      line_of = c.line_of;
    }

row_there : (xs : List Row) (y : Row) (ys : List Row) → AllByRecursion IsRow (xs ++ y ∷ ys) → IsRow y
row_there [] y ys h = h.0
row_there (x ∷ xs) y ys h = row_there xs y ys h.1

-- where something continues from the records of the lines, it continues from each place in these
pub accepted_viable : (limits : LimitValues) (records : List RecordValue) (before : List (List ℕ)) (line : List ℕ)
    (after : List (List ℕ)) (k : ℕ) → AllByRecursion IsRecord records
    → AllZip IsLineOf (rows_so_far records) (before ++ line ∷ after) → Continues (IsWithin limits) (map symbol_of records)
    → Viable limits before line k
accepted_viable limits records before line after k h z g =
    let v = completed g.0 records g.3.0 g.1 h g.3.1 in
    let c = cut_rows (rows_so_far records) before line after z in
    let cut =
    line_is_cut c.at line (row_there c.front c.at c.rest (subst (AllByRecursion IsRow) c.split (rows_well [] records h)))
    c.line_of in
    record {
      value = v.value;
      whole = v.whole;
      within = subst (IsWithin limits) (sym v.outline) g.2;
      front = c.front;
      next = c.at;
      rest = c.rest ++ rows_after records v.more;
      split =
          rows_split v.value records v.more v.whole v.begins ∙ ap (λ (l : List Row). l ++ rows_after records v.more) c.split
          ∙ append_assoc c.front (c.at ∷ c.rest) (rows_after records v.more);
      lines = c.front_lines;
      cells = (ap (take k) (sym cut.cells), λ far. cut.excess);
    }
