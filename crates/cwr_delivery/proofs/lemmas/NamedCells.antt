-- The cells of acknowledgements by their names, and what some of a transaction's first records is.
use Prim.Native.String.{String}
use Rattle.std.proofs.Common.{◌≡◌, ℕ, ◌+◌, Bool, true, false, List, [], ◌∷◌, length, take, Some}
use Rattle.std.proofs.Common.{refl, sym, ap, ◌∙◌}
use Rattle.std.specs.Prelude.{unwrap_or, slice_get, ◌||◌}
use Rattle.std.specs.List.{list_any}
use Rattle.std.proofs.lemmas.List.Folds.{list_any-append}
use Rattle.cwr_lines.specs.Format.Records.{RecordValue, IsRecord, cell_named}
use Rattle.cwr_lines.specs.Format.Carried.{record_cell}
use Rattle.cwr_findings.specs.Format.Fields.{IsField}
use Rattle.cwr_findings.proofs.lemmas.NamedCells.{cell_width, named_cell}
use Rattle.cwr_findings.proofs.lemmas.OneMore.{take_more}

-- the cell of a field is that of its name
pub cell_is : (name : String) (r : RecordValue) (j wide : ℕ) (cell : List ℕ) → cell ≡ unwrap_or (record_cell r j) []
    → IsField name r.kind j wide → IsRecord r
    → cell ≡ cell_named name r
cell_is name r j wide cell e field fits = e ∙ named_cell name r.kind j wide r field refl fits

pub cell_long : (name : String) (r : RecordValue) (j wide : ℕ) (cell : List ℕ) → cell ≡ unwrap_or (record_cell r j) []
    → IsField name r.kind j wide
    → IsRecord r → length cell ≡ wide
cell_long name r j wide cell e field fits = ap length e ∙ cell_width name r.kind j wide r field refl fits

-- ---- one record more

pub or_false : (a : Bool) → (a || false) ≡ a
or_false true = refl
or_false false = refl

pub or_true : (a : Bool) → (a || true) ≡ true
or_true true = refl
or_true false = refl

pub any_more : {X : Type 0} (p : X → Bool) (xs : List X) (i : ℕ) (x : X) → Some x ≡ slice_get xs i
    → list_any p (take (i + 1) xs) ≡ (list_any p (take i xs) || p x)
any_more p xs i x e =
    ap (list_any p) (take_more xs i x (sym e)) ∙ list_any-append p (take i xs) (x ∷ [])
    ∙ ap (λ (b : Bool). list_any p (take i xs) || b) (or_false (p x))

pub any_first : {X : Type 0} (p : X → Bool) (xs : List X) (x : X) → Some x ≡ slice_get xs 0 → p x ≡ list_any p (take 1 xs)
any_first p [] x e = absurd (cc e)
any_first p (y ∷ xs) x e = let same : y ≡ x = cc e in ap p (sym same) ∙ sym (or_false (p y))
