-- A cell that is written into a whole line is set in the record that the line carries.
use Rattle.std.proofs.Common.{◌≡◌, ℕ, zero, suc, ◌+◌, ◌-◌, ◌≤◌, Bool, false, cond, List, [], ◌∷◌, ◌++◌, length, map, take, drop}
use Rattle.std.proofs.Common.{option_map, slice_get, slice_set, sym, ap, ap₂, subst, ◌∙◌, arith}
use Rattle.std.specs.Prelude.{Option, Some, None, IsSomeAnd}
use Rattle.std.specs.Option.{option_and_then}
use Rattle.std.specs.List.{splice, refill}
use Rattle.std.proofs.lemmas.List.{take-append-le, drop-append-le, take-take, drop-take, drop-drop, length-take-le, length-drop}
use Rattle.std.proofs.lemmas.List.{length-append, take_at}
use Rattle.std.proofs.Math.Seq.{take-append_seam, drop-append_seam}
use Rattle.cwr_fields.specs.Format.Bytes.{filled}
use Rattle.cwr_fields.specs.Format.Cells.{Allows, type_width}
use Rattle.cwr_fields.specs.declared.kinds.Kind.{Kind}
use Rattle.cwr_fields.specs.Format.Layouts.{FieldLayout, layout, fields_with_starts, field_with_start, field_at, line_width}
use Rattle.cwr_lines.specs.Format.Lines.{pieces}
use Rattle.cwr_lines.specs.Format.Records.{RecordValue}
use Rattle.cwr_lines.specs.Format.Carried.{carried_at, carried_with_start, carried_before, set_cell, Sets}
use Rattle.cwr_lines.specs.Steps.Carried.{carried_cells, record_in}
use Rattle.cwr_lines.proofs.lemmas.CarriedCells.{carried_count, widths, is_carried, carried_at-placed, carried_in-set, carried_within}
use Rattle.cwr_fields.proofs.lemmas.AllKinds.{line_width_widest}
use Rattle.cwr_lines.proofs.lemmas.CellParts.{field_within}
use Rattle.cwr_lines.proofs.lemmas.FilledTexts.{length-filled}
use Rattle.cwr_fields.proofs.lemmas.FieldStarts.{field_at-start}
use Rattle.cwr_fields.proofs.lemmas.TypeWidths.{type_width-field}
use Rattle.cwr_lines.proofs.lemmas.GoodLinesAreRows.{carried_in}

-- what stands before the part that is written
take-splice : (n k e : ℕ) (xs t : List ℕ) → n ≤ k → k ≤ length xs → take n (splice xs k e t) ≡ take n xs
take-splice n k e xs t h w =
    let front : length (take k xs) ≡ k = length-take-le k xs w in
    take-append-le n (take k xs) (t ++ drop e xs) (omega arith) ∙ take-take n k xs h

-- after the first bytes the same part is written
drop-splice : (n k e : ℕ) (xs t : List ℕ) → n ≤ k → k ≤ length xs → n ≤ e
    → drop n (splice xs k e t) ≡ splice (drop n xs) (k - n) (e - n) t
drop-splice n k e xs t h w g =
    let front : length (take k xs) ≡ k = length-take-le k xs w in
    let first : drop n (take k xs) ≡ take (k - n) (drop n xs) =
    ap (λ (m : ℕ). drop n (take m xs)) (omega arith) ∙ drop-take n (k - n) xs in
    let last : drop e xs ≡ drop (e - n) (drop n xs) = ap (λ (m : ℕ). drop m xs) (omega arith) ∙ sym (drop-drop (e - n) n xs) in
    drop-append-le n (take k xs) (t ++ drop e xs) (omega arith) ∙ ap₂ (λ (x y : List ℕ). x ++ (t ++ y)) first last

-- writing the first piece
first_piece : (w e : ℕ) (ws line t : List ℕ) → length t ≡ w → e ≡ w
    → pieces (w ∷ ws) (t ++ drop e line) ≡ t ∷ pieces ws (drop w line)
first_piece w e ws line t h g =
    let first : take w (t ++ drop e line) ≡ t =
    ap (λ (n : ℕ). take n (t ++ drop e line)) (sym h) ∙ take-append_seam t (drop e line) in
    let others : drop w (t ++ drop e line) ≡ drop w line =
    ap (λ (n : ℕ). drop n (t ++ drop e line)) (sym h) ∙ drop-append_seam t (drop e line) ∙ ap (λ (n : ℕ). drop n line) g in
    ap₂ (λ (x : List ℕ) (xs : List (List ℕ)). x ∷ xs) first (ap (pieces ws) others)

starts_after : (at : ℕ) (fields : List FieldLayout) (i : ℕ) (p : ℕ × FieldLayout)
    → slice_get (fields_with_starts at fields) i ≡ Some p → at ≤ p.0
starts_after at [] i p e = absurd (cc e)
starts_after at (f ∷ fields) zero p e = let same : (at, f) ≡ p = cc e in rw (← same) (omega arith)
starts_after at (f ∷ fields) (suc i) p e = omega (arith, starts_after (at + f.width) fields i p e)

-- writing the part that a field takes sets its piece
pieces-splice : (at k : ℕ) (fields : List FieldLayout) (line : List ℕ) (i : ℕ) (p : ℕ × FieldLayout) (t : List ℕ)
    → slice_get (fields_with_starts at fields) i ≡ Some p → p.0 ≡ at + k → length t ≡ p.1.width → k + p.1.width ≤ length line
    → pieces (map (λ f. f.width) fields) (splice line k (k + length t) t)
    ≡ slice_set (pieces (map (λ f. f.width) fields) line) i t
pieces-splice at k [] line i p t e s w h = absurd (cc e)
pieces-splice at k (f ∷ fields) line zero p t e s w h =
    let same : (at, f) ≡ p = cc e in
    let start : at ≡ p.0 = ap (λ (q : ℕ × FieldLayout). q.0) same in
    let width : f.width ≡ p.1.width = ap (λ (q : ℕ × FieldLayout). q.1.width) same in
    let none : k ≡ 0 = omega arith in
    ap (λ (n : ℕ). pieces (map (λ g. g.width) (f ∷ fields)) (take n line ++ (t ++ drop (k + length t) line))) none
    ∙ first_piece f.width (k + length t) (map (λ g. g.width) fields) line t (omega arith) (omega arith)
pieces-splice at k (f ∷ fields) line (suc i) p t e s w h =
    let after : at + f.width ≤ p.0 = starts_after (at + f.width) fields i p e in
    let first : take f.width (splice line k (k + length t) t) ≡ take f.width line =
    take-splice f.width k (k + length t) line t (omega arith) (omega arith) in
    let rest : drop f.width (splice line k (k + length t) t)
    ≡ splice (drop f.width line) (k - f.width) (k - f.width + length t) t =
    drop-splice f.width k (k + length t) line t (omega arith) (omega arith) (omega arith)
    ∙ ap (λ (n : ℕ). splice (drop f.width line) (k - f.width) n t) (omega arith) in
    let set : pieces (map (λ g. g.width) fields) (splice (drop f.width line) (k - f.width) (k - f.width + length t) t)
    ≡ slice_set (pieces (map (λ g. g.width) fields) (drop f.width line)) i t =
    pieces-splice (at + f.width) (k - f.width) fields (drop f.width line) i p t e (omega arith) w
    (omega (arith, length-drop f.width line)) in
    ap₂ (λ (x : List ℕ) (xs : List (List ℕ)). x ∷ xs) first (ap (pieces (map (λ g. g.width) fields)) rest ∙ set)

-- a cell that is written where its field stands is set in the record
pub record_in-splice : (kind : Kind) (line : List ℕ) (j : ℕ) (p : ℕ × FieldLayout) (t : List ℕ) → length line ≡ line_width kind
    → carried_with_start kind j ≡ Some p → length t ≡ p.1.width
    → record_in kind (splice line p.0 (p.0 + length t) t) ≡ set_cell j t (record_in kind line)
unfolding carried_cells
record_in-splice kind line j p t whole e w =
    let h = is_carried kind j p e in
    let before : j - 1 ≡ h.place = omega (arith, h.number) in
    let cells : carried_in (layout kind) (pieces (widths kind) (splice line p.0 (p.0 + length t) t))
    ≡ slice_set (carried_cells kind line) (carried_before kind j) t =
    ap (carried_in (layout kind))
    (pieces-splice 0 p.0 (layout kind) line h.place p t h.found (omega arith) w (carried_within kind line j p whole e))
    ∙ carried_in-set (layout kind) (pieces (widths kind) line) h.place p.1 t h.field h.carried
    ∙ ap (λ (n : ℕ). slice_set (carried_cells kind line) (carried_count (take n (layout kind))) t) (sym before) in
    λ i. record { kind = kind; cells = cells i }

-- a line stays whole where a cell is written into it
pub length-splice : (line t : List ℕ) (k : ℕ) → k + length t ≤ length line → length (splice line k (k + length t) t) ≡ length line
length-splice line t k h =
    omega (
      arith,
      length-append (take k line) (t ++ drop (k + length t) line),
      length-append t (drop (k + length t) line),
      length-take-le k line (omega arith),
      length-drop (k + length t) line,
    )

-- ---- what `set` finds

-- the kind of what a line carries
same_kind : (kind : Kind) (line : List ℕ) (now : RecordValue) → record_in kind line ≡ now → kind ≡ now.kind
same_kind kind line now same = ap (λ (r : RecordValue). r.kind) same

pub no_field_to_set : (kind : Kind) (line : List ℕ) (j : ℕ) (now : RecordValue) → record_in kind line ≡ now
    → None ≡ field_with_start kind j → field_at now.kind j ≡ None
no_field_to_set kind line j now same e =
    subst (λ (k : Kind). field_at k j ≡ None) (same_kind kind line now same)
    (sym (field_at-start kind j) ∙ ap (option_map (λ (p : ℕ × FieldLayout). p.1)) (sym e))

-- a fact of the field that was found
pub of_field : (kind : Kind) (line : List ℕ) (j : ℕ) (p : ℕ × FieldLayout) (now : RecordValue) (P : FieldLayout → Type 0)
    → record_in kind line ≡ now → Some p ≡ field_with_start kind j
    → P p.1 → IsSomeAnd (field_at now.kind j) P
of_field kind line j p now P same e h =
    let found : Some p.1 ≡ field_at now.kind j =
    ap (option_map (λ (q : ℕ × FieldLayout). q.1)) e ∙ field_at-start kind j
    ∙ ap (λ (k : Kind). field_at k j) (same_kind kind line now same) in
    subst (λ (o : Option FieldLayout). IsSomeAnd o P) found h

-- a field that was found and isn't derived is carried
pub carried_found : (kind : Kind) (j : ℕ) (p : ℕ × FieldLayout) → Some p ≡ field_with_start kind j → p.1.derived ≡ false
    → carried_with_start kind j ≡ Some p
carried_found kind j p e d =
    ap (option_and_then (λ (q : ℕ × FieldLayout). cond q.1.derived None (Some q))) (sym e)
    ∙ ap (λ (b : Bool). cond b None (Some p)) d

-- a fact of the carried field that was found
pub of_carried : (kind : Kind) (line : List ℕ) (j : ℕ) (p : ℕ × FieldLayout) (now : RecordValue) (P : FieldLayout → Type 0)
    → record_in kind line ≡ now → Some p ≡ field_with_start kind j
    → p.1.derived ≡ false → P p.1 → IsSomeAnd (carried_at now.kind j) P
of_carried kind line j p now P same e d h =
    let found : Some p.1 ≡ carried_at now.kind j =
    ap (option_map (λ (q : ℕ × FieldLayout). q.1)) (sym (carried_found kind j p e d)) ∙ sym (carried_at-placed kind j)
    ∙ ap (λ (k : Kind). carried_at k j) (same_kind kind line now same) in
    subst (λ (o : Option FieldLayout). IsSomeAnd o P) found h

-- no field is wider than the widest line
pub field_most : (kind : Kind) (j : ℕ) (p : ℕ × FieldLayout) → Some p ≡ field_with_start kind j → p.1.width ≤ 719
field_most kind j p e = omega (arith, field_within kind j p (sym e), line_width_widest kind)

length-whole : (w : ℕ) (text cell : List ℕ) → length text ≤ w → cell ≡ filled w text → length cell ≡ w
length-whole w text cell h e = omega (arith, ap length e, length-filled w text)

-- a cell filled up to its field's width has the width of its type
pub filled_cell_wide : (kind : Kind) (j : ℕ) (p : ℕ × FieldLayout) (text cell : List ℕ) → Some p ≡ field_with_start kind j
    → length text ≤ p.1.width → cell ≡ filled p.1.width text
    → (w : ℕ) → type_width p.1.ty ≡ Some w → length cell ≡ w
filled_cell_wide kind j p text cell e h f w t =
    length-whole p.1.width text cell h f
    ∙ type_width-field kind j p.1 w (sym (field_at-start kind j) ∙ ap (option_map (λ (q : ℕ × FieldLayout). q.1)) (sym e)) t

-- the part where the cell is written lies within the line
pub part_within : (kind : Kind) (line : List ℕ) (j : ℕ) (p : ℕ × FieldLayout) (text cell slice : List ℕ)
    → length line ≡ line_width kind → Some p ≡ field_with_start kind j
    → length text ≤ p.1.width → cell ≡ filled p.1.width text → slice ≡ line → p.0 + length cell ≤ length slice
part_within kind line j p text cell slice whole e h f s =
    omega (arith, field_within kind j p (sym e), length-whole p.1.width text cell h f, ap length s)

refill_same : (xs ws : List ℕ) → length ws ≡ length xs → refill (length xs) xs ws ≡ ws
refill_same xs ws h = take_at ws (drop (length ws) xs) (length xs) h

-- what a draft is whose cell was written
pub is_set : (kind : Kind) (line : List ℕ) (j : ℕ) (p : ℕ × FieldLayout) (now : RecordValue) (text cell slice written : List ℕ)
    → record_in kind line ≡ now → length line ≡ line_width kind
    → Some p ≡ field_with_start kind j → p.1.derived ≡ false → length text ≤ p.1.width → cell ≡ filled p.1.width text
    → slice ≡ line → written ≡ splice slice p.0 (p.0 + length cell) cell
    → Allows p.1.ty cell → Sets j text now (record_in kind (refill (length line) line written))
is_set kind line j p now text cell slice written same whole e d h f s w holds =
    let at : carried_with_start kind j ≡ Some p = carried_found kind j p e d in
    let wide : length cell ≡ p.1.width = length-whole p.1.width text cell h f in
    let there : written ≡ splice line p.0 (p.0 + length cell) cell =
    w ∙ ap (λ (x : List ℕ). splice x p.0 (p.0 + length cell) cell) s in
    let kept : length written ≡ length line =
    ap length there ∙ length-splice line cell p.0 (omega (arith, field_within kind j p (sym e))) in
    let set : record_in kind (refill (length line) line written) ≡ set_cell j (filled p.1.width text) now =
    ap (record_in kind) (refill_same line written kept ∙ there) ∙ record_in-splice kind line j p cell whole at wide
    ∙ ap₂ (λ (x : List ℕ) (r : RecordValue). set_cell j x r) f same in
    of_carried kind line j p now (λ g. (length text ≤ g.width) × Allows g.ty (filled g.width text)
    × (record_in kind (refill (length line) line written) ≡ set_cell j (filled g.width text) now))
    same e d (h, subst (Allows p.1.ty) f holds, set)
