-- A record's cell of a name is that of the field that has the name, and is as wide as the field.
use Rattle.std.proofs.Common.{◌≡◌, ℕ, zero, suc, ◌+◌, Bool, true, false, cond, List, [], ◌∷◌, length, refl, sym, ap, ◌∙◌, arith}
use Rattle.std.proofs.Common.{subst}
use Rattle.std.specs.Prelude.{Option, Some, None, find, zip, option_map, unwrap_or, slice_get, codes, not, is_some}
use Rattle.std.specs.List.{AllZip}
use Rattle.std.specs.Option.{option_and_then}
use Rattle.std.specs.Str.{bytes_eq}
use Prim.Native.String.{String}
use Rattle.cwr_fields.specs.declared.kinds.Kind.{Kind}
use Rattle.cwr_fields.specs.Format.Layouts.{FieldLayout}
use Rattle.cwr_lines.specs.Format.Carried.{carried_at, carried_before, record_cell}
use Rattle.cwr_lines.specs.Format.Records.{RecordValue, IsRecord, IsCellOf, cell_named, carried_fields}
use Rattle.cwr_findings.specs.Format.Fields.{IsField, index_of_name}

found_at : (name : List ℕ) (fields : List FieldLayout) (cells : List (List ℕ)) → length cells ≡ length fields
    → option_map (λ (p : FieldLayout × List ℕ). p.1) (find (λ p. bytes_eq p.0.name name) (zip fields cells))
    ≡ slice_get cells (index_of_name name fields)
found_at name [] [] h = refl
found_at name [] (c ∷ cells) h = absurd (omega (arith, h))
found_at name (f ∷ fields) [] h = absurd (omega (arith, h))
found_at name (f ∷ fields) (c ∷ cells) h = by (bytes_eq f.name name) (found_at name fields cells (omega (arith, h)))
  where
    one_more : suc (index_of_name name fields) ≡ 1 + index_of_name name fields
    one_more = omega arith

    by : (b : Bool) → option_map (λ (p : FieldLayout × List ℕ). p.1) (find (λ p. bytes_eq p.0.name name) (zip fields cells))
        ≡ slice_get cells (index_of_name name fields)
        → option_map (λ (p : FieldLayout × List ℕ). p.1)
        (cond b (Some (f, c)) (find (λ p. bytes_eq p.0.name name) (zip fields cells))) ≡ slice_get (c ∷ cells)
        (cond (not b) (1 + index_of_name name fields) 0)
    by true e = refl
    by false e = e ∙ ap (λ (i : ℕ). slice_get (c ∷ cells) i) one_more

cells_many : (fields : List FieldLayout) (cells : List (List ℕ)) → AllZip IsCellOf fields cells → length cells ≡ length fields
cells_many [] [] h = refl
cells_many [] (c ∷ cells) h = absurd h
cells_many (f ∷ fields) [] h = absurd h
cells_many (f ∷ fields) (c ∷ cells) h = ap suc (cells_many fields cells h.1)

width_at : (fields : List FieldLayout) (cells : List (List ℕ)) (i : ℕ) → AllZip IsCellOf fields cells
    → length (unwrap_or (slice_get cells i) []) ≡ unwrap_or (option_map (λ (f : FieldLayout). f.width) (slice_get fields i)) 0
width_at [] [] i h = refl
width_at [] (c ∷ cells) i h = absurd h
width_at (f ∷ fields) [] i h = absurd h
width_at (f ∷ fields) (c ∷ cells) zero h = h.0.0
width_at (f ∷ fields) (c ∷ cells) (suc i) h = width_at fields cells i h.1

cell_at : (r : RecordValue) (j : ℕ) (o : Option FieldLayout) → is_some o ≡ true
    → option_and_then (λ _. slice_get r.cells (carried_before r.kind j)) o ≡ slice_get r.cells (carried_before r.kind j)
cell_at r j None e = absurd (cc e)
cell_at r j (Some f) e = refl

-- the cell of a name, by the field's number
pub named_cell : (name : String) (kind : Kind) (j wide : ℕ) (r : RecordValue) → IsField name kind j wide → r.kind ≡ kind
    → IsRecord r → unwrap_or (record_cell r j) [] ≡ cell_named name r
named_cell name kind j wide r h e fits =
    let at = subst (λ k. IsField name k j wide) (sym e) h in
    ap (λ (o : Option (List ℕ)). unwrap_or o []) (cell_at r j (carried_at r.kind j) at.carried ∙ ap (slice_get r.cells) at.place)
    ∙ sym (ap (λ (o : Option (List ℕ)). unwrap_or o [])
    (found_at (codes name) (carried_fields r.kind) r.cells (cells_many (carried_fields r.kind) r.cells fits)))

-- and its width
pub cell_width : (name : String) (kind : Kind) (j wide : ℕ) (r : RecordValue) → IsField name kind j wide → r.kind ≡ kind
    → IsRecord r → length (unwrap_or (record_cell r j) []) ≡ wide
cell_width name kind j wide r h e fits =
    let at = subst (λ k. IsField name k j wide) (sym e) h in
    ap (λ (o : Option (List ℕ)). length (unwrap_or o [])) (cell_at r j (carried_at r.kind j) at.carried)
    ∙ width_at (carried_fields r.kind) r.cells (carried_before r.kind j) fits ∙ at.width
