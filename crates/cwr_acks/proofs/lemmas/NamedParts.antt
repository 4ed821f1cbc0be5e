-- The lengths of cells, and parts of texts.
use Prim.Native.String.{String}
use Rattle.std.proofs.Common.{◌≡◌, ℕ, ◌+◌, ◌≤◌, cond, List, [], ◌∷◌, ◌++◌, length, Option, Some, None}
use Rattle.std.proofs.Common.{refl, sym, ap, subst, ◌∙◌, arith, append_assoc}
use Rattle.std.specs.Prelude.{option_map, unwrap_or, slice_get}
use Rattle.std.specs.Option.{option_and_then}
use Rattle.std.specs.List.{flat_map}
use Rattle.cwr_fields.specs.Format.Bytes.{trimmed}
use Rattle.cwr_lines.specs.Format.Records.{RecordValue, IsRecord}
use Rattle.cwr_lines.specs.Format.Carried.{carried_before, record_cell}
use Rattle.cwr_fields.specs.Format.Layouts.{FieldLayout, field_at, field_with_start}
use Rattle.cwr_fields.proofs.lemmas.FieldStarts.{field_at-start}
use Rattle.cwr_encode.proofs.lemmas.Numbered.{numbered}
use Rattle.cwr_findings.specs.Format.Fields.{IsField}
use Rattle.cwr_delivery.proofs.lemmas.NamedCells.{cell_long}
use Rattle.cwr_json.proofs.lemmas.FieldsShown.{length-trimmed-le, short_line}

-- without trailing spaces it is no longer
pub trimmed_long : (name : String) (r : RecordValue) (j wide : ℕ) (cell shown : List ℕ) → cell ≡ unwrap_or (record_cell r j) []
    → IsField name r.kind j wide
    → IsRecord r → shown ≡ trimmed cell → length shown ≤ wide
trimmed_long name r j wide cell shown e field fits same =
    omega (arith, cell_long name r j wide cell e field fits, length-trimmed-le cell, ap length same)

-- ---- any cell

-- a record's cell is short
small_cell : (r : RecordValue) (j : ℕ) → IsRecord r → (o : Option (List ℕ)) → o ≡ record_cell r j
    → (place : Option (ℕ × FieldLayout))
    → place ≡ field_with_start r.kind j → length (unwrap_or o []) ≤ 720
small_cell r j fits None e place h = omega arith
small_cell r j fits (Some cell) e (Some p) h = omega (arith, short_line r j p cell fits e h)
small_cell r j fits (Some cell) e None h =
    let none : field_at r.kind j ≡ None =
    sym (field_at-start r.kind j) ∙ ap (option_map (λ (q : ℕ × FieldLayout). q.1)) (sym h) in
    let gone : record_cell r j ≡ None
    = ap (λ (o : Option FieldLayout). option_and_then (λ (_ : FieldLayout). slice_get r.cells (carried_before r.kind j))
    (option_and_then (λ (f : FieldLayout). cond f.derived None (Some f)) o)) none in
    let wrong : Some cell ≡ None = e ∙ gone in
    absurd (cc wrong)

pub cell_short : (r : RecordValue) (j : ℕ) (cell : List ℕ) → cell ≡ unwrap_or (record_cell r j) [] → IsRecord r
    → length cell ≤ 720
cell_short r j cell e fits =
    subst (λ (l : List ℕ). length l ≤ 720) (sym e)
    (small_cell r j fits (record_cell r j) refl (field_with_start r.kind j) refl)

-- ---- parts, one after another

pub four_parts : (text a b c d : List ℕ) → (((text ++ a) ++ b) ++ c) ++ d ≡ text ++ (((a ++ b) ++ c) ++ d)
four_parts text a b c d = simp append_assoc

pub five_parts : (text a b c d e : List ℕ) → ((((text ++ a) ++ b) ++ c) ++ d) ++ e ≡ text ++ ((((a ++ b) ++ c) ++ d) ++ e)
five_parts text a b c d e = simp append_assoc

pub three_parts : (text a b c : List ℕ) → ((text ++ a) ++ b) ++ c ≡ text ++ ((a ++ b) ++ c)
three_parts text a b c = simp append_assoc

pub six_parts : (text a b c d e f : List ℕ)
    → (((((text ++ a) ++ b) ++ c) ++ d) ++ e) ++ f ≡ text ++ (((((a ++ b) ++ c) ++ d) ++ e) ++ f)
six_parts text a b c d e f = simp append_assoc

-- ---- texts

-- texts that don't depend on their numbers
pub numbered_alike : {X : Type 0} (f : X → List ℕ) (n : ℕ) (xs : List X) → numbered (λ k x. f x) n xs ≡ flat_map f xs
numbered_alike f n [] = refl
numbered_alike f n (x ∷ xs) = ap (λ (l : List ℕ). f x ++ l) (numbered_alike f (n + 1) xs)
