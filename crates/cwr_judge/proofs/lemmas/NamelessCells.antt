-- A cell that isn't one of its field's type, or is a number, names no symbol.
use Rattle.std.proofs.Common.{◌≡◌, ℕ, Bool, true, false, cond, List, option_map, refl, sym, ap, subst, ◌∙◌, true≢false}
use Rattle.std.specs.Prelude.{Option, Some, None, ◌==◌}
use Rattle.std.proofs.lemmas.Bool.{eqb-true}
use Rattle.cwr_fields.specs.declared.cell_types.CellType.{CellType}
use Rattle.cwr_fields.specs.declared.cell_types.CellType.TheVariants as types
use Rattle.cwr_fields.specs.Format.Cells.{Allows}
use Rattle.cwr_fields.specs.declared.kinds.Kind.{Kind}
use Rattle.cwr_fields.specs.declared.kinds.Kind.TheVariants as kinds
use Rattle.cwr_fields.specs.Format.Layouts.{FieldLayout, field_at}
use Rattle.cwr_shape.specs.declared.symbols.Symbol.TheVariants.{Ipa, Grh}
use Rattle.cwr_shape.specs.Format.Candidates.{role_in, type_in}
use Rattle.cwr_judge.specs.Steps.Judged.{named_symbol}
use Rattle.cwr_judge.proofs.lemmas.FirstFaults.{no_role, no_type}

abbrev type_at : Option FieldLayout → CellType
type_at None = types.Text
type_at (Some f) = f.ty

abbrev is_derived : Option FieldLayout → Bool
is_derived None = false
is_derived (Some f) = f.derived

pub unfit_nameless : (kind : Kind) (j : ℕ) (f : FieldLayout) (c : List ℕ) → field_at kind j ≡ Some f → ¬ Allows f.ty c
    → named_symbol kind j c ≡ None
unfit_nameless kinds.Ipa j f c at fault = by (j == 4) refl
  where
    by : (b : Bool) → (j == 4) ≡ b → cond b (option_map Ipa (role_in c)) None ≡ None
    by true e =
        let ty = ap type_at (ap (λ (n : ℕ). field_at kinds.Ipa n) (sym (eqb-true j 4 e)) ∙ at) in
        sym (no_role kinds.Ipa 4 c refl refl (λ h. fault (subst (λ (t : CellType). Allows t c) ty h.1)))
    by false e = refl
unfit_nameless kinds.Grh j f c at fault = by (j == 2) refl
  where
    by : (b : Bool) → (j == 2) ≡ b → cond b (option_map Grh (type_in c)) None ≡ None
    by true e =
        let ty = ap type_at (ap (λ (n : ℕ). field_at kinds.Grh n) (sym (eqb-true j 2 e)) ∙ at) in
        sym (no_type kinds.Grh 2 c refl refl (λ h. fault (subst (λ (t : CellType). Allows t c) ty h.1)))
    by false e = refl
unfit_nameless kind j f c at fault = refl

pub derived_nameless : (kind : Kind) (j : ℕ) (f : FieldLayout) (c : List ℕ) → field_at kind j ≡ Some f → f.derived ≡ true
    → named_symbol kind j c ≡ None
derived_nameless kinds.Ipa j f c at d = by (j == 4) refl
  where
    by : (b : Bool) → (j == 4) ≡ b → cond b (option_map Ipa (role_in c)) None ≡ None
    by true e =
        let not = ap is_derived (ap (λ (n : ℕ). field_at kinds.Ipa n) (sym (eqb-true j 4 e)) ∙ at) in
        absurd (true≢false (sym (not ∙ d)))
    by false e = refl
derived_nameless kinds.Grh j f c at d = by (j == 2) refl
  where
    by : (b : Bool) → (j == 2) ≡ b → cond b (option_map Grh (type_in c)) None ≡ None
    by true e =
        let not = ap is_derived (ap (λ (n : ℕ). field_at kinds.Grh n) (sym (eqb-true j 2 e)) ∙ at) in
        absurd (true≢false (sym (not ∙ d)))
    by false e = refl
derived_nameless kind j f c at d = refl
