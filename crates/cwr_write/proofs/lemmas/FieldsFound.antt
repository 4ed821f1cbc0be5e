-- What is said of a field that is looked up in its kind's table.
use Rattle.std.proofs.Common.{◌≡◌, ℕ, suc, ◌+◌, ◌<◌, List, [], length, get_or, Option, Some, None, sym, ap, subst, ◌∙◌, arith}
use Rattle.std.specs.Prelude.{option_map, slice_get}
use Rattle.std.proofs.lemmas.Option.{slice_get-get_or}
use Rattle.cwr_fields.specs.declared.kinds.Kind.{Kind}
use Rattle.cwr_fields.specs.Format.Layouts.{FieldLayout, field_at, field_with_start, layout, record_type}
use Rattle.cwr_fields.proofs.lemmas.FieldStarts.{field_at-start}
use Rattle.cwr_json.specs.Format.Forms.{key_of}
use Rattle.cwr_write.specs.Format.OutcomeTexts.{carried_if, carried_key, field_key, key_if, width_if, width_text}

found : (this_kind : Kind) (j : ℕ) (o : Option (ℕ × FieldLayout)) → o ≡ field_with_start this_kind j
    → field_at this_kind j ≡ option_map (λ (q : ℕ × FieldLayout). q.1) o
found this_kind j o e = sym (field_at-start this_kind j) ∙ ap (option_map (λ (q : ℕ × FieldLayout). q.1)) (sym e)

pub key_found : (this_kind : Kind) (j : ℕ) (p : ℕ × FieldLayout) → Some p ≡ field_with_start this_kind j
    → field_key this_kind j ≡ key_of p.1.name
key_found this_kind j p e = ap key_if (found this_kind j (Some p) e)

pub key_missed : (this_kind : Kind) (j : ℕ) → None ≡ field_with_start this_kind j → field_key this_kind j ≡ []
key_missed this_kind j e = ap key_if (found this_kind j None e)

pub carried_found : (this_kind : Kind) (j : ℕ) (p : ℕ × FieldLayout) → Some p ≡ field_with_start this_kind j
    → carried_if (field_at this_kind j) ≡ carried_key p.1
carried_found this_kind j p e = ap carried_if (found this_kind j (Some p) e)

pub carried_missed : (this_kind : Kind) (j : ℕ) → None ≡ field_with_start this_kind j → carried_if (field_at this_kind j) ≡ []
carried_missed this_kind j e = ap carried_if (found this_kind j None e)

pub width_found : (this_kind : Kind) (j : ℕ) (p : ℕ × FieldLayout) → Some p ≡ field_with_start this_kind j
    → width_text this_kind j ≡ width_if (Some p.1)
width_found this_kind j p e = ap width_if (found this_kind j (Some p) e)

pub width_missed : (this_kind : Kind) (j : ℕ) → None ≡ field_with_start this_kind j → width_text this_kind j ≡ []
width_missed this_kind j e = ap width_if (found this_kind j None e)

suc_is : (i : ℕ) → suc i ≡ i + 1
suc_is i = omega arith

-- the field at a place of the table
pub carried_at : (this_kind : Kind) (i : ℕ) → i < length (layout this_kind)
    → carried_if (field_at this_kind (i + 1)) ≡ carried_key (get_or (layout this_kind) i record_type)
carried_at this_kind i h =
    let fields : List FieldLayout = layout this_kind in
    let at : Some (get_or fields i record_type) ≡ slice_get fields i = sym (slice_get-get_or fields i record_type h) in
    subst (λ (n : ℕ). carried_if (field_at this_kind n) ≡ carried_key (get_or fields i record_type)) (suc_is i)
    (ap carried_if (sym at))
