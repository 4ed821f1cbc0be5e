-- The record type of a line of a kind is good: it is the kind's letters, and no number.
use Rattle.std.proofs.Common.{lit≤, ◌≡◌, ℕ, ◌≤◌, Bool, true, false, not, cond, List, [], ◌∷◌, take, refl, sym, ap, subst, ◌∙◌}
use Rattle.std.proofs.Common.{true≢false}
use Rattle.std.specs.Prelude.{Option, Some, None, find, zip, option_map, slice_index_or, ◌==◌}
use Rattle.std.specs.List.{list_all}
use Rattle.std.proofs.lemmas.Bool.{and_parts}
use Rattle.cwr_fields.specs.declared.cell_types.CellType.TheVariants as types
use Rattle.cwr_fields.specs.Format.Bytes.{filled}
use Rattle.cwr_fields.specs.Format.Cells.{Allows}
use Rattle.cwr_fields.proofs.lemmas.CellTests.{holds_test, holds_sound}
use Rattle.cwr_fields.specs.declared.kinds.Kind.{Kind}
use Rattle.cwr_fields.specs.declared.kinds.Kind.TheVariants as kinds
use Rattle.cwr_fields.specs.Format.Kinds.{letters}
use Rattle.cwr_fields.specs.Format.Layouts.{FieldLayout, field_at, record_type, line_width}
use Rattle.cwr_lines.specs.Format.Lines.{cells_as, line_body, line_kind}
use Rattle.cwr_lines.proofs.lemmas.GoodLinesAreRows.{letters-of, three-filled}
use Rattle.cwr_shape.specs.Format.Numbers.{number_fields, number_in}
use Rattle.cwr_judge.specs.Format.Reasons.{cell_of}

-- ---- its cell

letters_hold : (kind : Kind) → Allows types.Required (letters kind)
unfolding holds_test
letters_hold kinds.Hdr = holds_sound types.Required (letters kinds.Hdr) refl
letters_hold kind = holds_sound types.Required (letters kind) refl

wide : (kind : Kind) → 3 ≤ line_width kind
wide kinds.Hdr = lit≤ tt
wide kind = lit≤ tt

pub type_cell : (kind : Kind) (line : List ℕ) → line_kind line ≡ Some kind → cell_of line 1 ≡ letters kind
type_cell kind line known =
    let body : List ℕ = line_body line in
    ap (λ (o : Option Kind). slice_index_or (cells_as o body) 0 []) known ∙ three-filled (line_width kind) body (wide kind)
    ∙ sym (letters-of (take 3 (filled 3 body)) kind known)

-- the field's cell is one of its type
pub type_holds : (kind : Kind) (line : List ℕ) (f : FieldLayout) → line_kind line ≡ Some kind → field_at kind 1 ≡ Some f
    → Allows f.ty (cell_of line 1)
type_holds kind line f known at =
    let same : record_type ≡ f = cc at in
    subst (λ (g : FieldLayout). Allows g.ty (cell_of line 1)) same
    (subst (Allows types.Required) (sym (type_cell kind line known)) (letters_hold kind))

-- ---- no number is in it

abbrev others : List ℕ → Bool
others js = list_all (λ j. not (j == 1)) js

none_found : (js ns : List ℕ) → others js ≡ true
    → option_map (λ (p : ℕ × ℕ). p.1) (find (λ (p : ℕ × ℕ). p.0 == 1) (zip js ns)) ≡ None
none_found [] ns h = refl
none_found (j ∷ js) [] h = refl
none_found (j ∷ js) (n ∷ ns) h =
    let p = and_parts (not (j == 1)) (others js) h in
    by (j == 1) refl p.0 (none_found js ns p.1)
  where
    by : (b : Bool) → (j == 1) ≡ b → not (j == 1) ≡ true
        → option_map (λ (p : ℕ × ℕ). p.1) (find (λ (p : ℕ × ℕ). p.0 == 1) (zip js ns)) ≡ None
        → option_map (λ (p : ℕ × ℕ). p.1) (find (λ (p : ℕ × ℕ). p.0 == 1) ((j, n) ∷ zip js ns)) ≡ None
    by true e o rest = absurd (true≢false (sym (sym (ap not e) ∙ o)))
    by false e o rest =
        ap (λ (b : Bool). option_map (λ (p : ℕ × ℕ). p.1) (cond b (Some (j, n)) (find (λ (p : ℕ × ℕ). p.0 == 1) (zip js ns)))) e
        ∙ rest

after_type : (kind : Kind) → others (number_fields kind) ≡ true
after_type kinds.Hdr = refl
after_type kind = refl

pub type_has_no_number : (kind : Kind) (ns : List ℕ) → number_in kind 1 ns ≡ None
type_has_no_number kind ns = none_found (number_fields kind) ns (after_type kind)
