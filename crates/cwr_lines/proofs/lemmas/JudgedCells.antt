-- Which cells of a line without control bytes have to be judged: neither derived ones nor plain text.
use Rattle.std.proofs.Common.{◌≡◌, ℕ, zero, suc, ◌+◌, ◌<◌, Bool, true, false, List, [], ◌∷◌, length, slice_get, refl, sym, ap}
use Rattle.std.proofs.Common.{subst, ◌∙◌, arith, true≢false}
use Rattle.std.specs.Prelude.{Option, Some, None, Result, Ok}
use Rattle.cwr_fields.specs.declared.cell_types.CellFault.{CellFault}
use Rattle.cwr_fields.specs.declared.cell_types.CellType.{CellType}
use Rattle.cwr_fields.specs.declared.cell_types.CellType.TheVariants.{Text}
use Rattle.cwr_fields.specs.Format.Bytes.{is_plain}
use Rattle.cwr_fields.specs.Format.Cells.{Allows}
use Rattle.cwr_fields.specs.declared.kinds.Kind.{Kind}
use Rattle.cwr_fields.specs.Format.Layouts.{FieldLayout, layout, line_width}
use Rattle.cwr_lines.specs.Format.Records.{IsRecord}
use Rattle.cwr_lines.specs.Format.Carried.{carried_with_start, FitsAt}
use Rattle.cwr_lines.specs.Steps.Carried.{record_in}
use Rattle.cwr_lines.proofs.lemmas.CarriedCells.{is_carried, field_at-carried}
use Rattle.cwr_lines.proofs.lemmas.CellParts.{part, plain_part}
use Rattle.cwr_lines.proofs.lemmas.FitCells.{all_fit, fits_before, fits_found, fits_none}

-- what is owed of a field, where it has to be judged
abbrev pub IsJudged : Bool → CellType → Type 0 → Type 0
IsJudged true ty P = Unit {0}
IsJudged false Text P = Unit {0}
IsJudged false ty P = P

-- of each field, numbered from 1
abbrev pub AreJudged : (ℕ → Type 0) → List FieldLayout → Type 0
AreJudged P [] = Unit {0}
AreJudged P (f ∷ fields) = IsJudged f.derived f.ty (P 1) × AreJudged (λ j. P (suc j)) fields

by_type : (b : Bool) (ty : CellType) (P : Type 0) → IsJudged b ty P → (b ≡ true → P) → (b ≡ false → ty ≡ Text → P) → P
by_type true ty P h d t = d refl
by_type false Text P h d t = t refl refl
by_type false ty P h d t = h

-- what is so of each derived field and of each of plain text, is so of all
each : (P : ℕ → Type 0) (fields : List FieldLayout) → AreJudged P fields
    → ((k : ℕ) (f : FieldLayout) → slice_get fields k ≡ Some f → f.derived ≡ true → P (suc k))
    → ((k : ℕ) (f : FieldLayout) → slice_get fields k ≡ Some f → f.derived ≡ false → f.ty ≡ Text → P (suc k)) → (k : ℕ)
    → k < length fields → P (suc k)
each P [] h d t k lt = absurd (omega arith)
each P (f ∷ fields) h d t zero lt = by_type f.derived f.ty (P 1) h.0 (d 0 f refl) (t 0 f refl)
each P (f ∷ fields) h d t (suc k) lt = each (λ j. P (suc j)) fields h.1 (λ i g. d (suc i) g) (λ i g. t (suc i) g) k (omega arith)

-- the field of a carried cell
same_field : (kind : Kind) (k : ℕ) (f : FieldLayout) (p : ℕ × FieldLayout) → slice_get (layout kind) k ≡ Some f
    → carried_with_start kind (suc k) ≡ Some p → f ≡ p.1
same_field kind k f p e x = let same : Some f ≡ Some p.1 = sym e ∙ field_at-carried kind (suc k) p x in cc same

derived_fits : (kind : Kind) (line : List ℕ) (k : ℕ) (f : FieldLayout) → slice_get (layout kind) k ≡ Some f → f.derived ≡ true
    → FitsAt (record_in kind line) (suc k)
derived_fits kind line k f e d = by (carried_with_start kind (suc k)) refl
  where
    by : (o : Option (ℕ × FieldLayout)) → carried_with_start kind (suc k) ≡ o → FitsAt (record_in kind line) (suc k)
    by None x = fits_none (record_in kind line) (suc k) (sym x)
    by (Some p) x =
        absurd (true≢false
        (sym d ∙ ap (λ (g : FieldLayout). g.derived) (same_field kind k f p e x) ∙ (is_carried kind (suc k) p x).carried))

text_fits : (kind : Kind) (line : List ℕ) (k : ℕ) (f : FieldLayout) → is_plain line ≡ true → slice_get (layout kind) k ≡ Some f
    → f.ty ≡ Text → FitsAt (record_in kind line) (suc k)
text_fits kind line k f plain e t = by (carried_with_start kind (suc k)) refl
  where
    by : (o : Option (ℕ × FieldLayout)) → carried_with_start kind (suc k) ≡ o → FitsAt (record_in kind line) (suc k)
    by None x = fits_none (record_in kind line) (suc k) (sym x)
    by (Some p) x =
        let r : Result (Unit {0}) CellFault = Ok tt in
        let text : p.1.ty ≡ Text = ap (λ (g : FieldLayout). g.ty) (sym (same_field kind k f p e x)) ∙ t in
        fits_found r kind line (suc k) p x
        (subst (λ (ty : CellType). Allows ty (part line p)) (sym text) (plain_part line p plain))

-- a whole line without control bytes carries a record where each cell fits that has to be judged
pub carries : (kind : Kind) (line : List ℕ) → length line ≡ line_width kind → is_plain line ≡ true
    → AreJudged (FitsAt (record_in kind line)) (layout kind) → IsRecord (record_in kind line)
carries kind line whole plain h = all_fit kind line whole fits
  where
    fits : (i : ℕ) → i < length (layout kind) + 1 → FitsAt (record_in kind line) i
    fits zero lt = fits_before (record_in kind line) 0 (omega arith)
    fits (suc k) lt =
        each (FitsAt (record_in kind line)) (layout kind) h (derived_fits kind line)
        (λ i f e d t. text_fits kind line i f plain e t) k (omega arith)
