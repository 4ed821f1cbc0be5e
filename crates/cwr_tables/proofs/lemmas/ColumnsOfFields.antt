-- The column of one field.
use Rattle.std.proofs.Common.{◌≡◌, ℕ, true, false, cond, List, [], Option, Some, None, sym, ap, ◌∙◌}
use Rattle.std.specs.Prelude.{option_map}
use Rattle.std.specs.Option.{option_and_then}
use Rattle.cwr_fields.specs.declared.kinds.Kind.{Kind}
use Rattle.cwr_fields.specs.Format.Layouts.{FieldLayout, field_with_start}
use Rattle.cwr_fields.proofs.lemmas.FieldStarts.{field_at-start}
use Rattle.cwr_json.specs.Format.Forms.{key_of}
use Rattle.cwr_tables.specs.Steps.RowTexts.{column_of, name_of, next_cell}

-- the name of a field, if that is carried
abbrev column_at : Option FieldLayout → List ℕ
column_at o = name_of (option_and_then (λ (f : FieldLayout). cond f.derived None (Some f)) o)

at : (this_kind : Kind) (j : ℕ) (o : Option (ℕ × FieldLayout)) → o ≡ field_with_start this_kind j
    → column_of this_kind j ≡ column_at (option_map (λ (q : ℕ × FieldLayout). q.1) o)
at this_kind j o e = ap column_at (sym (field_at-start this_kind j) ∙ ap (option_map (λ (q : ℕ × FieldLayout). q.1)) (sym e))

pub column-none : (this_kind : Kind) (j : ℕ) → None ≡ field_with_start this_kind j → column_of this_kind j ≡ []
column-none this_kind j e = at this_kind j None e

pub column-derived : (this_kind : Kind) (j : ℕ) (p : ℕ × FieldLayout) → Some p ≡ field_with_start this_kind j → p.1.derived ≡ true
    → column_of this_kind j ≡ []
column-derived this_kind j p e d = at this_kind j (Some p) e ∙ ap (λ (b : _). name_of (cond b None (Some p.1))) d

pub column-named : (this_kind : Kind) (j : ℕ) (p : ℕ × FieldLayout) → Some p ≡ field_with_start this_kind j → p.1.derived ≡ false
    → column_of this_kind j ≡ next_cell (key_of p.1.name)
column-named this_kind j p e d = at this_kind j (Some p) e ∙ ap (λ (b : _). name_of (cond b None (Some p.1))) d
