-- The cells of a whole line, judged one by one.
use Rattle.std.proofs.Common.{◌≡◌, ℕ, zero, suc, ◌+◌, ◌<◌, Bool, true, false, not, cond, List, [], ◌∷◌, length, map, filter}
use Rattle.std.proofs.Common.{option_map, slice_get, refl, sym, ap, subst, ◌∙◌, arith}
use Rattle.std.specs.Prelude.{Option, Some, None, Result, OnOk, IfErr, IfSome, IsSomeAnd}
use Rattle.std.specs.Option.{ForSome}
use Rattle.std.specs.List.{AllZip, zip}
use Rattle.std.proofs.lemmas.Result.{on_ok_weaker, IfErr-weaker}
use Rattle.cwr_fields.specs.declared.cell_types.CellFault.{CellFault}
use Rattle.cwr_fields.specs.Format.Cells.{Allows, HasFault, type_width}
use Rattle.cwr_fields.specs.declared.kinds.Kind.{Kind}
use Rattle.cwr_fields.specs.Format.Layouts.{FieldLayout, layout, line_width}
use Rattle.cwr_lines.specs.Format.Lines.{pieces}
use Rattle.cwr_lines.specs.Format.Records.{RecordValue, IsCellOf, IsRecord}
use Rattle.cwr_lines.specs.Format.Carried.{carried_at, carried_with_start, record_cell, FitsAt, HasCellFault}
use Rattle.cwr_lines.specs.Steps.Carried.{carried_cells, record_in}
use Rattle.cwr_lines.proofs.lemmas.CellParts.{part}
use Rattle.cwr_lines.proofs.lemmas.HeldLaws.{length-part}
use Rattle.cwr_fields.proofs.lemmas.TypeWidths.{type_width-field}
use Rattle.cwr_lines.proofs.lemmas.CarriedCells.{record_cell-at, record_cell-part, record_cell-piece, carried_at-placed}
use Rattle.cwr_lines.proofs.lemmas.CarriedCells.{carried_at-field, carried_within, field_at-carried, widths}
use Rattle.cwr_lines.proofs.lemmas.GoodLinesAreRows.{carried_in, pieces_wide}

-- a cell that is cut out has the width of its field's type, where that has one
pub wide_cell : (kind : Kind) (line : List ℕ) (j : ℕ) (p : ℕ × FieldLayout) → length line ≡ line_width kind
    → carried_with_start kind j ≡ Some p
    → ForSome (type_width p.1.ty) (λ w. length (part line p) ≡ w)
wide_cell kind line j p whole e w h =
    length-part line p (carried_within kind line j p whole e) ∙ type_width-field kind j p.1 w (field_at-carried kind j p e) h

-- what is known of the cell of a carried field
known : (kind : Kind) (line : List ℕ) (j : ℕ) (p : ℕ × FieldLayout) (P : Option FieldLayout → Option (List ℕ) → Type 0)
    → carried_with_start kind j ≡ Some p
    → P (Some p.1) (Some (part line p)) → P (carried_at kind j) (record_cell (record_in kind line) j)
known kind line j p P e h =
    let field : Some p.1 ≡ carried_at kind j =
    sym (carried_at-placed kind j ∙ ap (option_map (λ (q : ℕ × FieldLayout). q.1)) e) in
    let cell : Some (part line p) ≡ record_cell (record_in kind line) j =
    sym (record_cell-part kind line j ∙ ap (option_map (part line)) e) in
    subst (λ (o : Option FieldLayout). P o (record_cell (record_in kind line) j)) field
    (subst (λ (o : Option (List ℕ)). P (Some p.1) o) cell h)

-- a cell that is one of its type fits
pub fits_found : {T E : Type 0} (r : Result T E) (kind : Kind) (line : List ℕ) (j : ℕ) (p : ℕ × FieldLayout)
    → carried_with_start kind j ≡ Some p
    → OnOk r (Allows p.1.ty (part line p)) → OnOk r (FitsAt (record_in kind line) j)
fits_found r kind line j p e h = on_ok_weaker r (known kind line j p (λ f cell. IfSome f (λ g. IfSome cell (Allows g.ty))) e) h

-- a cell that has a fault is the record's
pub fault_found : {T : Type 0} (r : Result T CellFault) (kind : Kind) (line : List ℕ) (j : ℕ) (p : ℕ × FieldLayout)
    → carried_with_start kind j ≡ Some p
    → IfErr r (HasFault p.1.ty (part line p)) → IfErr r (HasCellFault (record_in kind line) j)
fault_found r kind line j p e h =
    IfErr-weaker r (HasFault p.1.ty (part line p)) (HasCellFault (record_in kind line) j)
    (λ fault. known kind line j p (λ f cell. IsSomeAnd f (λ g. IsSomeAnd cell (λ c. HasFault g.ty c fault))) e) h

-- where no field is carried, nothing is judged
pub fits_none : (r : RecordValue) (j : ℕ) → None ≡ carried_with_start r.kind j → FitsAt r j
fits_none r j e =
    let none : None ≡ carried_at r.kind j =
    sym (carried_at-placed r.kind j ∙ ap (option_map (λ (q : ℕ × FieldLayout). q.1)) (sym e)) in
    subst (λ (o : Option FieldLayout). IfSome o (λ f. IfSome (record_cell r j) (Allows f.ty))) none tt

-- ---- all cells of a line

-- each cell that is carried is one of its field's type
abbrev AllHold : List FieldLayout → List (List ℕ) → Type 0
AllHold fields cells =
    (i : ℕ) (f : FieldLayout) (c : List ℕ) → slice_get fields i ≡ Some f → f.derived ≡ false → slice_get cells i ≡ Some c
    → Allows f.ty c

are_cells_by : (b : Bool) (f : FieldLayout) (fields : List FieldLayout) (c : List ℕ) (rest : List (FieldLayout × List ℕ))
    → length c ≡ f.width → (b ≡ false → Allows f.ty c)
    → AllZip IsCellOf (filter (λ g. not g.derived) fields) (map (λ p. p.1) rest)
    → AllZip IsCellOf (cond (not b) (f ∷ filter (λ g. not g.derived) fields) (filter (λ g. not g.derived) fields))
    (map (λ p. p.1) (cond (not b) ((f, c) ∷ rest) rest))
are_cells_by true f fields c rest w h ih = ih
are_cells_by false f fields c rest w h ih = ((w, h refl), ih)

are_cells : (fields : List FieldLayout) (cells : List (List ℕ)) → AllZip (λ f text. length text ≡ f.width) fields cells
    → AllHold fields cells
    → AllZip IsCellOf (filter (λ g. not g.derived) fields) (carried_in fields cells)
are_cells [] [] w h = tt
are_cells [] (c ∷ cells) w h = absurd w
are_cells (f ∷ fields) [] w h = absurd w
are_cells (f ∷ fields) (c ∷ cells) w h =
    are_cells_by f.derived f fields c (filter (λ p. not p.0.derived) (zip fields cells)) w.0 (λ d. h 0 f c refl d refl)
    (are_cells fields cells w.1 (λ i g x e d t. h (suc i) g x e d t))

slice_get-lt : (fields : List FieldLayout) (i : ℕ) (f : FieldLayout) → slice_get fields i ≡ Some f → i < length fields
slice_get-lt [] i f e = absurd (cc e)
slice_get-lt (g ∷ fields) zero f e = omega arith
slice_get-lt (g ∷ fields) (suc i) f e = omega (arith, slice_get-lt fields i f e)

-- a whole line of which each field's cell fits carries a record
pub all_fit : (kind : Kind) (line : List ℕ) → length line ≡ line_width kind
    → ((i : ℕ) → i < length (layout kind) + 1 → FitsAt (record_in kind line) i) → IsRecord (record_in kind line)
unfolding carried_cells
all_fit kind line whole h =
    are_cells (layout kind) (pieces (widths kind) line) (pieces_wide (layout kind) line (omega (arith, whole)))
    (λ i f c e d t.
    let there : record_cell (record_in kind line) (suc i) ≡ Some c = record_cell-piece kind line i f e d ∙ t in
    let fits : FitsAt (record_in kind line) (suc i) = h (suc i) (omega (arith, slice_get-lt (layout kind) i f e)) in
    let at : IfSome (Some f) (λ g. IfSome (record_cell (record_in kind line) (suc i)) (Allows g.ty)) =
    subst (λ (o : Option FieldLayout). IfSome o (λ g. IfSome (record_cell (record_in kind line) (suc i)) (Allows g.ty)))
    (carried_at-field kind i f e d) fits in
    subst (λ (o : Option (List ℕ)). IfSome o (Allows f.ty)) there at)

-- no cell stands before the first field
pub fits_before : (r : RecordValue) (i : ℕ) → i < 1 → FitsAt r i
fits_before r zero h = tt
fits_before r (suc i) h = absurd (omega arith)

-- no cell of a record has a fault
pub record_has_no_fault : (r : RecordValue) (j : ℕ) (fault : CellFault) → IsRecord r → HasCellFault r j fault → ⊥
record_has_no_fault r j fault h bad = by (carried_at r.kind j) refl bad
  where
    by : (o : Option FieldLayout) → carried_at r.kind j ≡ o
        → IsSomeAnd o (λ f. IsSomeAnd (record_cell r j) (λ cell. HasFault f.ty cell fault)) → ⊥
    by None e b = b
    by (Some f) e b =
        let at = record_cell-at r j f h e in
        let there : IsSomeAnd (Some at.cell) (λ cell. HasFault f.ty cell fault) =
        subst (λ (o : Option (List ℕ)). IsSomeAnd o (λ cell. HasFault f.ty cell fault)) at.found b in
        there.0 at.is_cell.1
