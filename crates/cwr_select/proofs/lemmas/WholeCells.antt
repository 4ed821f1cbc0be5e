-- A cell that is known to be one of its field is set as it is, and never refused.
use Rattle.std.proofs.Common.{◌≡◌, ℕ, ◌-◌, ◌<◌, ◌≤◌, Bool, true, false, cond, List, [], ◌++◌, length, Option, Some, None}
use Rattle.std.proofs.Common.{refl, sym, ap, subst, ◌∙◌, append-nil, arith, slice_get}
use Rattle.std.specs.Prelude.{IsSomeAnd, IsTrue, is_some, replicate, unwrap_or}
use Rattle.std.specs.Option.{option_and_then}
use Rattle.cwr_fields.specs.declared.kinds.Kind.{Kind}
use Rattle.cwr_fields.specs.Format.Bytes.{filled}
use Rattle.cwr_fields.specs.Format.Cells.{Allows}
use Rattle.cwr_fields.specs.Format.Layouts.{FieldLayout, field_at}
use Rattle.cwr_lines.specs.declared.drafts.SetFault.{SetFault}
use Rattle.cwr_lines.specs.declared.drafts.SetFault.TheVariants.{NoSuchField, Derived, TooWide, Cell}
use Rattle.cwr_lines.specs.Format.Carried.{IsSetFault, Sets, carried_at, carried_before, record_cell, set_cell}
use Rattle.cwr_lines.specs.Format.Records.{IsCellOf, IsRecord, RecordValue}
use Rattle.cwr_lines.proofs.lemmas.CarriedCells.{record_cell-at}
use Rattle.cwr_select.specs.Steps.Headers.{IsWholeCell}

filled_whole : (width : ℕ) (text : List ℕ) → length text ≡ width → filled width text ≡ text
filled_whole width text e =
    let none : width - length text ≡ 0 = omega (arith, e) in
    ap (λ (n : ℕ). text ++ replicate n 32) none ∙ append-nil text

pub set_whole : (j : ℕ) (text : List ℕ) (old new : RecordValue) → IsWholeCell old.kind j text → Sets j text old new
    → new ≡ set_cell j text old
set_whole j text old new fits sets = by (carried_at old.kind j) fits sets
  where
    by : (o : Option FieldLayout) → IsSomeAnd o (λ f. (length text ≡ f.width) × Allows f.ty text)
        → IsSomeAnd o
        (λ f. (length text ≤ f.width) × Allows f.ty (filled f.width text) × (new ≡ set_cell j (filled f.width text) old))
        → new ≡ set_cell j text old
    by None h k = absurd h
    by (Some f) h k = k.2 ∙ ap (λ (t : List ℕ). set_cell j t old) (filled_whole f.width text h.0)

pub never_refused : (j : ℕ) (text : List ℕ) (kind : Kind) (fault : SetFault) → IsWholeCell kind j text
    → IsSetFault kind j text fault → ⊥
never_refused j text kind fault fits refused = by fault refused
  where
    no_field : (o : Option FieldLayout) → o ≡ None
        → IsSomeAnd (option_and_then (λ (f : FieldLayout). cond f.derived None (Some f)) o)
        (λ f. (length text ≡ f.width) × Allows f.ty text) → ⊥
    no_field None none h = h
    no_field (Some f) none h = absurd (cc none)

    derived_by : (f : FieldLayout) (b : Bool) → IsTrue b
        → IsSomeAnd (cond b None (Some f)) (λ f. (length text ≡ f.width) × Allows f.ty text) → ⊥
    derived_by f true so h = h
    derived_by f false so h = absurd (cc so)

    derived : (o : Option FieldLayout) → IsSomeAnd o (λ f. IsTrue f.derived)
        → IsSomeAnd (option_and_then (λ (f : FieldLayout). cond f.derived None (Some f)) o)
        (λ f. (length text ≡ f.width) × Allows f.ty text) → ⊥
    derived None so h = so
    derived (Some f) so h = derived_by f f.derived so h

    wide : (o : Option FieldLayout) → IsSomeAnd o (λ f. f.width < length text)
        → IsSomeAnd o (λ f. (length text ≡ f.width) × Allows f.ty text) → ⊥
    wide None more h = h
    wide (Some f) more h = absurd (omega (arith, more, h.0))

    other : (o : Option FieldLayout) → IsSomeAnd o (λ f. (length text ≤ f.width) × (Allows f.ty (filled f.width text) → ⊥))
        → IsSomeAnd o (λ f. (length text ≡ f.width) × Allows f.ty text) → ⊥
    other None bad h = h
    other (Some f) bad h = bad.1 (subst (Allows f.ty) (sym (filled_whole f.width text h.0)) h.1)

    unfit : (o : Option FieldLayout) (P : FieldLayout → Type 0)
        → IsSomeAnd o (λ f. (length text ≤ f.width) × ((Allows f.ty (filled f.width text) → ⊥) × P f))
        → IsSomeAnd o (λ f. (length text ≤ f.width) × (Allows f.ty (filled f.width text) → ⊥))
    unfit None P h = h
    unfit (Some f) P h = (h.0, h.1.0)

    by : (x : SetFault) → IsSetFault kind j text x → ⊥
    by NoSuchField h = no_field (field_at kind j) h fits
    by Derived h = derived (field_at kind j) h fits
    by TooWide h = wide (carried_at kind j) h fits
    by (Cell c) h = other (carried_at kind j) (unfit (carried_at kind j) _ h) fits

-- a cell of a record is whole
pub whole_cell : (r : RecordValue) (j : ℕ) (text : List ℕ) → IsRecord r → record_cell r j ≡ Some text
    → IsWholeCell r.kind j text
whole_cell r j text fits is = by (carried_at r.kind j) refl
  where
    by : (o : Option FieldLayout) → carried_at r.kind j ≡ o
        → IsSomeAnd o (λ f. (length text ≡ f.width) × Allows f.ty text)
    by None at =
        let none : record_cell r j ≡ None =
        ap (option_and_then (λ (_ : FieldLayout). slice_get r.cells (carried_before r.kind j))) at in
        absurd (cc (sym none ∙ is))
    by (Some f) at =
        let here = record_cell-at r j f fits at in
        let same : here.cell ≡ text = cc (sym here.found ∙ is) in
        subst (IsCellOf f) same here.is_cell

-- so is one that is shown
pub shown_cell : (r : RecordValue) (j : ℕ) (text : List ℕ) → IsRecord r → text ≡ unwrap_or (record_cell r j) []
    → is_some (carried_at r.kind j) ≡ true → IsWholeCell r.kind j text
shown_cell r j text fits is some = by (carried_at r.kind j) refl some
  where
    by : (o : Option FieldLayout) → carried_at r.kind j ≡ o → is_some o ≡ true → IsWholeCell r.kind j text
    by None at so = absurd (cc so)
    by (Some f) at so =
        let here = record_cell-at r j f fits at in
        whole_cell r j text fits
        (here.found ∙ ap (λ (t : List ℕ). Some t) (sym (is ∙ ap (λ (o : Option (List ℕ)). unwrap_or o []) here.found)))
