-- The row of a record is written on a line, and a line is that of one row.
use Rattle.std.proofs.Common.{◌≡◌, ℕ, ◌+◌, ◌-◌, Bool, true, false, not, cond, List, [], ◌∷◌, ◌++◌, length, map, take, drop}
use Rattle.std.proofs.Common.{filter, refl, sym, ap, subst, ◌∙◌, arith, ap₂}
use Rattle.std.specs.Prelude.{Some, slice_get, slice_index, unwrap_or, if◌then◌else◌}
use Rattle.std.specs.List.{AllZip, concat, zip}
use Rattle.std.specs.Str.{bytes_eq}
use Rattle.std.proofs.lemmas.List.{length-append, append_cancel_left}
use Rattle.std.proofs.Math.Seq.{take-append_seam, drop-append_seam}
use Rattle.std.proofs.lemmas.List.Sums.{sum_by-cons}
use Rattle.cwr_fields.specs.Format.Bytes.{digits, trimmed}
use Rattle.cwr_fields.proofs.lemmas.Digits.{length-digits}
use Rattle.cwr_fields.proofs.lemmas.LineFeeds.{NoLf, NoLf-append, NoLf-digits, NoLf-Allows}
use Rattle.cwr_fields.specs.declared.kinds.Kind.{Kind}
use Rattle.cwr_fields.specs.Format.Kinds.{letters}
use Rattle.cwr_fields.specs.Format.Layouts.{FieldLayout, layout, fields_after_type, total_width, line_width}
use Rattle.cwr_lines.specs.Format.Records.{RecordValue, IsCellOf, IsRecord, Row, IsRow, rest_if, row_cells, row_of, full_line}
use Rattle.cwr_lines.specs.Format.Records.{record_of}
use Rattle.cwr_lines.specs.Format.Lines.{without_cr, IsLineOf}
use Rattle.cwr_fields.proofs.lemmas.TrimmedTexts.{same_from_trimmed}
use Rattle.cwr_fields.proofs.lemmas.AllKinds.{length-letters, NoLf-letters, line_width_most, trimmed-letters}
use Rattle.cwr_fields.proofs.lemmas.AllKinds.{letters-injective}

-- a text in a field, in its width and without line feed
abbrev pub Fits : FieldLayout → List ℕ → Type 0
Fits f text = (length text ≡ f.width) × NoLf text

fit_by : (b : Bool) (f : FieldLayout) (fields : List FieldLayout) (numbers : List ℕ) (cells : List (List ℕ))
    → ((numbers' : List ℕ) (cells' : List (List ℕ)) → AllZip IsCellOf (filter (λ g. not g.derived) fields) cells'
    → AllZip Fits fields (row_cells fields numbers' cells'))
    → AllZip IsCellOf (cond (not b) (f ∷ filter (λ g. not g.derived) fields) (filter (λ g. not g.derived) fields)) cells
    → Fits f (if b then digits f.width (slice_index numbers 0) else unwrap_or (slice_get cells 0) [])
    × AllZip Fits fields (row_cells fields (rest_if b numbers) (rest_if (not b) cells))
fit_by true f fields numbers cells ih h =
    ((length-digits f.width (slice_index numbers 0), NoLf-digits f.width (slice_index numbers 0)), ih (drop 1 numbers) cells h)
fit_by false f fields numbers [] ih h = absurd h
fit_by false f fields numbers (c ∷ cells) ih h = ((h.0.0, NoLf-Allows f.ty c h.0.1), ih numbers cells h.1)

-- each cell of a row fits its field
row_cells_fit : (fields : List FieldLayout) (numbers : List ℕ) (cells : List (List ℕ))
    → AllZip IsCellOf (filter (λ g. not g.derived) fields) cells → AllZip Fits fields (row_cells fields numbers cells)
row_cells_fit [] numbers cells h = tt
row_cells_fit (f ∷ fields) numbers cells h = fit_by f.derived f fields numbers cells (row_cells_fit fields) h

pub row_fits : (numbers : List ℕ) (r : RecordValue) → IsRecord r → AllZip Fits (layout r.kind) (row_of numbers r).cells
row_fits numbers r h = ((length-letters r.kind, NoLf-letters r.kind), row_cells_fit (fields_after_type r.kind) numbers r.cells h)

widths_only : (fields : List FieldLayout) (cells : List (List ℕ)) → AllZip Fits fields cells
    → AllZip (λ f text. length text ≡ f.width) fields cells
widths_only [] [] h = tt
widths_only [] (c ∷ cells) h = absurd h
widths_only (f ∷ fields) [] h = absurd h
widths_only (f ∷ fields) (c ∷ cells) h = (h.0.0, widths_only fields cells h.1)

-- the row of a record is a row
pub IsRow-row_of : (numbers : List ℕ) (r : RecordValue) → IsRecord r → IsRow (row_of numbers r)
IsRow-row_of numbers r h =
    record { widths = widths_only (layout r.kind) (row_of numbers r).cells (row_fits numbers r h); begins = refl }

pub length-concat : (fields : List FieldLayout) (cells : List (List ℕ)) → AllZip (λ f text. length text ≡ f.width) fields cells
    → length (concat cells) ≡ total_width fields
length-concat [] [] h = refl
length-concat [] (c ∷ cells) h = absurd h
length-concat (f ∷ fields) [] h = absurd h
length-concat (f ∷ fields) (c ∷ cells) h =
    let here : length c ≡ f.width = h.0 in
    let rest : length (concat cells) ≡ total_width fields = length-concat fields cells h.1 in
    length-append c (concat cells) ∙ ap (λ (n : ℕ). n + length (concat cells)) here ∙ ap (λ (n : ℕ). f.width + n) rest
    ∙ sym (sum_by-cons (λ (g : FieldLayout). g.width) f fields)

NoLf-concat : (fields : List FieldLayout) (cells : List (List ℕ)) → AllZip Fits fields cells → NoLf (concat cells)
NoLf-concat [] [] h = refl
NoLf-concat [] (c ∷ cells) h = absurd h
NoLf-concat (f ∷ fields) [] h = absurd h
NoLf-concat (f ∷ fields) (c ∷ cells) h = NoLf-append c (concat cells) h.0.1 (NoLf-concat fields cells h.1)

-- a carriage return that was added is dropped
pub without_cr-added : (x : List ℕ) → without_cr (x ++ 13 ∷ []) ≡ x
without_cr-added x =
    let len : length (x ++ 13 ∷ []) - 1 ≡ length x = omega (arith, length-append x (13 ∷ [])) in
    let last : drop (length (x ++ 13 ∷ []) - 1) (x ++ 13 ∷ []) ≡ 13 ∷ [] =
    ap (λ (n : ℕ). drop n (x ++ 13 ∷ [])) len ∙ drop-append_seam x (13 ∷ []) in
    let front : take (length (x ++ 13 ∷ []) - 1) (x ++ 13 ∷ []) ≡ x =
    ap (λ (n : ℕ). take n (x ++ 13 ∷ [])) len ∙ take-append_seam x (13 ∷ []) in
    ap (λ (l : List ℕ). cond (bytes_eq l (13 ∷ [])) (take (length (x ++ 13 ∷ []) - 1) (x ++ 13 ∷ [])) (x ++ 13 ∷ [])) last ∙ front

-- the full line of a record's row, with CR, is a line of it
pub full_line_is_line : (numbers : List ℕ) (r : RecordValue) → IsRecord r
    → IsLineOf (row_of numbers r) (full_line (row_of numbers r) ++ 13 ∷ [])
full_line_is_line numbers r h =
    let row : Row = row_of numbers r in
    let fits = row_fits numbers r h in
    let len : length (full_line (row_of numbers r)) ≡ line_width r.kind =
    length-concat (layout r.kind) (row_of numbers r).cells (widths_only (layout r.kind) (row_of numbers r).cells fits) in (
      NoLf-append (full_line (row_of numbers r)) (13 ∷ []) (NoLf-concat (layout r.kind) (row_of numbers r).cells fits) refl,
      omega (arith, len, line_width_most r.kind, length-append (full_line (row_of numbers r)) (13 ∷ [])),
      ap trimmed (without_cr-added (full_line (row_of numbers r))),
    )

-- what is carried in cells, by their fields
abbrev carried_in : List FieldLayout → List (List ℕ) → List (List ℕ)
carried_in fields cells = map (λ p. p.1) (filter (λ p. not p.0.derived) (zip fields cells))

carried_by : (b : Bool) (f : FieldLayout) (fields : List FieldLayout) (numbers : List ℕ) (cells : List (List ℕ))
    → ((numbers' : List ℕ) (cells' : List (List ℕ)) → AllZip IsCellOf (filter (λ g. not g.derived) fields) cells'
    → carried_in fields (row_cells fields numbers' cells') ≡ cells')
    → AllZip IsCellOf (cond (not b) (f ∷ filter (λ g. not g.derived) fields) (filter (λ g. not g.derived) fields)) cells
    → map (λ p. p.1) (cond (not b) ((f, (if b then digits f.width (slice_index numbers 0) else unwrap_or (slice_get cells 0) []))
    ∷ filter (λ (p : FieldLayout × List ℕ). not p.0.derived)
    (zip fields (row_cells fields (rest_if b numbers) (rest_if (not b) cells))))
    (filter (λ (p : FieldLayout × List ℕ). not p.0.derived)
    (zip fields (row_cells fields (rest_if b numbers) (rest_if (not b) cells))))) ≡ cells
carried_by true f fields numbers cells ih h = ih (drop 1 numbers) cells h
carried_by false f fields numbers [] ih h = absurd h
carried_by false f fields numbers (c ∷ cells) ih h = ap (λ (xs : List (List ℕ)). c ∷ xs) (ih numbers cells h.1)

carried_back : (fields : List FieldLayout) (numbers : List ℕ) (cells : List (List ℕ))
    → AllZip IsCellOf (filter (λ g. not g.derived) fields) cells
    → carried_in fields (row_cells fields numbers cells) ≡ cells
carried_back [] numbers [] h = refl
carried_back [] numbers (c ∷ cells) h = absurd h
carried_back (f ∷ fields) numbers cells h = carried_by f.derived f fields numbers cells (carried_back fields) h

-- a record's row carries the record
pub record_of-row_of : (numbers : List ℕ) (r : RecordValue) → IsRecord r → record_of (row_of numbers r) ≡ r
record_of-row_of numbers r h = λ i. record { kind = r.kind; cells = carried_back (fields_after_type r.kind) numbers r.cells h i }

-- ---- one row for a line

-- the full line of a row begins with its letters
pub begins_with : (row : Row) → IsRow row → (rest : List ℕ) × (full_line row ≡ letters row.kind ++ rest)
begins_with row h = first row.cells h.begins
  where
    first : (cells : List (List ℕ)) → slice_get cells 0 ≡ Some (letters row.kind)
        → (rest : List ℕ) × (concat cells ≡ letters row.kind ++ rest)
    first [] e = absurd cc
    first (c ∷ cells) e = let same : c ≡ letters row.kind = cc e in (concat cells, ap (λ (x : List ℕ). x ++ concat cells) same)

same_letters : (a b x y : List ℕ) → length a ≡ 3 → length b ≡ 3 → a ++ x ≡ b ++ y → a ≡ b
same_letters a b x y la lb e =
    let pa : take 3 (a ++ x) ≡ a = ap (λ (n : ℕ). take n (a ++ x)) (sym la) ∙ take-append_seam a x in
    let pb : take 3 (b ++ y) ≡ b = ap (λ (n : ℕ). take n (b ++ y)) (sym lb) ∙ take-append_seam b y in
    sym pa ∙ ap (take 3) e ∙ pb

-- rows whose full lines are the same but for trailing spaces are of one kind
same_kind : (r s : Row) → IsRow r → IsRow s → trimmed (full_line r) ≡ trimmed (full_line s) → r.kind ≡ s.kind
same_kind r s h k e =
    let b = begins_with r h in
    let c = begins_with s k in
    let tr = trimmed-letters r.kind b.0 in
    let ts = trimmed-letters s.kind c.0 in
    let both : letters r.kind ++ tr.0 ≡ letters s.kind ++ ts.0 = sym tr.1 ∙ sym (ap trimmed b.1) ∙ e ∙ ap trimmed c.1 ∙ ts.1 in
    letters-injective r.kind s.kind
    (same_letters (letters r.kind) (letters s.kind) tr.0 ts.0 (length-letters r.kind) (length-letters s.kind) both)

-- cells of the same widths that are the same one after the other are the same
same_cells : (fields : List FieldLayout) (xs ys : List (List ℕ)) → AllZip (λ f text. length text ≡ f.width) fields xs
    → AllZip (λ f text. length text ≡ f.width) fields ys
    → concat xs ≡ concat ys → xs ≡ ys
same_cells [] [] [] h k e = refl
same_cells [] [] (y ∷ ys) h k e = absurd k
same_cells [] (x ∷ xs) ys h k e = absurd h
same_cells (f ∷ fields) [] ys h k e = absurd h
same_cells (f ∷ fields) (x ∷ xs) [] h k e = absurd k
same_cells (f ∷ fields) (x ∷ xs) (y ∷ ys) h k e =
    let len : length x ≡ length y = h.0 ∙ sym k.0 in
    let first : x ≡ y =
    sym (take-append_seam x (concat xs)) ∙ ap (λ (n : ℕ). take n (x ++ concat xs)) len ∙ ap (take (length y)) e
    ∙ take-append_seam y (concat ys) in
    let rest : concat xs ≡ concat ys =
    append_cancel_left x (concat xs) (concat ys) (e ∙ ap (λ (z : List ℕ). z ++ concat ys) (sym first)) in
    ap₂ (λ (z : List ℕ) (zs : List (List ℕ)). z ∷ zs) first (same_cells fields xs ys h.1 k.1 rest)

-- a line is that of one row at most
pub one_row : (r s : Row) (line : List ℕ) → IsRow r → IsRow s → IsLineOf r line → IsLineOf s line → r ≡ s
one_row r s line h k l m =
    let e : trimmed (full_line r) ≡ trimmed (full_line s) = sym l.2 ∙ m.2 in
    let kind : r.kind ≡ s.kind = same_kind r s h k e in
    let ws : AllZip (λ f text. length text ≡ f.width) (layout r.kind) s.cells =
    subst (λ (j : Kind). AllZip (λ f text. length text ≡ f.width) (layout j) s.cells) (sym kind) k.widths in
    let lr = length-concat (layout r.kind) r.cells h.widths in
    let ls = length-concat (layout r.kind) s.cells ws in
    let full : full_line r ≡ full_line s = same_from_trimmed (full_line r) (full_line s) (lr ∙ sym ls) e in
    let cells : r.cells ≡ s.cells = same_cells (layout r.kind) r.cells s.cells h.widths ws full in
    λ i. record { kind = kind i; cells = cells i }
