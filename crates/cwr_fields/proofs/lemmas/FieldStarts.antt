-- A field is found in the layout where it is found among the fields with their starts, and the last one ends the line.
use Rattle.std.proofs.Common.{◌≡◌, ℕ, zero, suc, ◌+◌, ◌-◌, List, [], ◌∷◌, length, map, slice_get, option_map, Some, refl, sym, ap}
use Rattle.std.proofs.Common.{ap₂, ◌∙◌, false, nat_eq, arith, ne_eqb}
use Rattle.std.proofs.lemmas.List.{length-map}
use Rattle.std.proofs.lemmas.List.Sums.{sum_by-cons}
use Rattle.std.proofs.lemmas.Option.{slice_get-map}
use Rattle.cwr_fields.specs.declared.kinds.Kind.{Kind}
use Rattle.cwr_fields.specs.declared.layouts.Field.{Field}
use Rattle.cwr_fields.specs.Format.Layouts.{FieldLayout, layout, fields_with_starts, field_with_start, field_at, total_width}
use Rattle.cwr_fields.specs.Format.Layouts.{line_width}
use Rattle.cwr_fields.specs.Steps.Views.{field_view}

pub without_starts : (at : ℕ) (fields : List FieldLayout) (i : ℕ)
    → option_map (λ (p : ℕ × FieldLayout). p.1) (slice_get (fields_with_starts at fields) i) ≡ slice_get fields i
without_starts at [] i = refl
without_starts at (f ∷ fields) zero = refl
without_starts at (f ∷ fields) (suc i) = without_starts (at + f.width) fields i

-- the field with its start is the field
pub field_at-start : (kind : Kind) (j : ℕ) → option_map (λ (p : ℕ × FieldLayout). p.1) (field_with_start kind j) ≡ field_at kind j
field_at-start kind zero = refl
field_at-start kind (suc i) =
    let some : nat_eq (suc i) 0 ≡ false = ne_eqb (suc i) 0 (λ h. omega arith) in
    let before : suc i - 1 ≡ i = omega arith in
    rw (some, before) (without_starts 0 (layout kind) i)

-- the last field ends where the line does
last_end : (at : ℕ) (fields : List FieldLayout) (p : ℕ × FieldLayout)
    → slice_get (fields_with_starts at fields) (length fields - 1) ≡ Some p → p.0 + p.1.width ≡ at + total_width fields
last_end at [] p e = absurd (cc e)
last_end at (f ∷ []) p e = let same : p ≡ (at, f) = cc e in omega (arith, ap (λ (q : ℕ × FieldLayout). q.0 + q.1.width) same)
last_end at (f ∷ g ∷ fields) p e =
    let before : suc (length (g ∷ fields) - 1) ≡ length (f ∷ g ∷ fields) - 1 = omega arith in
    let there : slice_get (fields_with_starts at (f ∷ g ∷ fields)) (suc (length (g ∷ fields) - 1)) ≡ Some p =
    ap (slice_get (fields_with_starts at (f ∷ g ∷ fields))) before ∙ e in
    let rest : p.0 + p.1.width ≡ (at + f.width) + total_width (g ∷ fields) = last_end (at + f.width) (g ∷ fields) p there in
    omega (arith, rest, sum_by-cons (λ (h : FieldLayout). h.width) f (g ∷ fields))

-- so the width of a line is the last field's start and width
pub width_of_last : (kind : Kind) (fields : List Field) (last : Field)
    → map field_view fields ≡ fields_with_starts 0 (layout kind) → Some last ≡ slice_get fields (length fields - 1)
    → last.start + last.width ≡ line_width kind
width_of_last kind fields last same e =
    let many : length fields ≡ length (layout kind) =
    sym (length-map fields field_view) ∙ ap length same ∙ counted_fields 0 (layout kind) in
    let there : slice_get (fields_with_starts 0 (layout kind)) (length (layout kind) - 1) ≡ Some (field_view last) =
    ap₂ (λ (l : List (ℕ × FieldLayout)) (n : ℕ). slice_get l (n - 1)) (sym same) (sym many)
    ∙ slice_get-map field_view fields (length fields - 1) ∙ ap (option_map field_view) (sym e) in
    let sum : last.start + last.width ≡ 0 + line_width kind = last_end 0 (layout kind) (field_view last) there in
    omega (arith, sum)
  where
    counted_fields : (at : ℕ) (fields : List FieldLayout) → length (fields_with_starts at fields) ≡ length fields
    counted_fields at [] = refl
    counted_fields at (f ∷ fields) = ap suc (counted_fields (at + f.width) fields)
