-- Where a type has a width, each field of the type has that width.
use Rattle.std.proofs.Common.{◌≡◌, ℕ, zero, suc, Bool, true, List, [], ◌∷◌, refl, sym, ap, ◌∙◌}
use Rattle.std.specs.Prelude.{Option, Some, option_map, unwrap_or, slice_get, ◌==◌}
use Rattle.std.specs.List.{list_all}
use Rattle.std.proofs.lemmas.Bool.{and_parts, eqb-true}
use Rattle.cwr_fields.specs.Format.Cells.{type_width}
use Rattle.cwr_fields.specs.declared.kinds.Kind.{Kind}
use Rattle.cwr_fields.specs.declared.kinds.Kind.TheVariants.{Hdr}
use Rattle.cwr_fields.specs.Format.Layouts.{FieldLayout, layout, field_at}

-- the field has the width of its type
abbrev pub is_wide : FieldLayout → Bool
is_wide f = unwrap_or (option_map (λ w. w == f.width) (type_width f.ty)) true

pub all_wide : (kind : Kind) → list_all is_wide (layout kind) ≡ true
all_wide Hdr = refl
all_wide this_kind = refl

pub wide_one : (fields : List FieldLayout) (i : ℕ) (f : FieldLayout) → list_all is_wide fields ≡ true
    → slice_get fields i ≡ Some f → is_wide f ≡ true
wide_one [] i f h e = absurd (cc e)
wide_one (g ∷ fields) zero f h e =
    let same : g ≡ f = cc e in ap is_wide (sym same) ∙ (and_parts (is_wide g) (list_all is_wide fields) h).0
wide_one (g ∷ fields) (suc i) f h e = wide_one fields i f (and_parts (is_wide g) (list_all is_wide fields) h).1 e

-- a field of a type that has a width has that width
pub type_width-field : (kind : Kind) (j : ℕ) (f : FieldLayout) (w : ℕ) → field_at kind j ≡ Some f → type_width f.ty ≡ Some w
    → f.width ≡ w
type_width-field kind zero f w e h = absurd (cc e)
type_width-field kind (suc i) f w e h =
    let wide : is_wide f ≡ true = wide_one (layout kind) i f (all_wide kind) e in
    sym (eqb-true w f.width (ap (λ (o : Option ℕ). unwrap_or (option_map (λ v. v == f.width) o) true) (sym h) ∙ wide))
