-- What is known of the field that a cell is shown under: it is carried, and its name and its cell are short.
use Rattle.std.proofs.Common.{◌≡◌, ℕ, zero, suc, ◌+◌, ◌≤◌, Bool, true, List, [], ◌∷◌, length, Option, Some, None, refl, sym, ap}
use Rattle.std.proofs.Common.{◌∙◌, arith}
use Rattle.std.specs.Prelude.{nat_le, option_map, slice_get}
use Rattle.std.specs.List.{list_all}
use Rattle.std.specs.Option.{option_and_then}
use Rattle.std.proofs.lemmas.Bool.{and_parts}
use Rattle.std.proofs.lemmas.List.{length-append}
use Rattle.cwr_fields.specs.Format.Bytes.{trimmed}
use Rattle.cwr_fields.specs.declared.kinds.Kind.{Kind}
use Rattle.cwr_fields.specs.declared.kinds.Kind.TheVariants.{Hdr}
use Rattle.cwr_fields.specs.Format.Layouts.{FieldLayout, layout, field_at, field_with_start}
use Rattle.cwr_lines.specs.Format.Records.{RecordValue, IsRecord}
use Rattle.cwr_lines.specs.Format.Carried.{carried_at, record_cell}
use Rattle.cwr_fields.proofs.lemmas.TrimmedTexts.{spaces_after}
use Rattle.cwr_fields.proofs.lemmas.FieldStarts.{field_at-start}
use Rattle.cwr_lines.proofs.lemmas.CarriedCells.{open_some, record_cell-at}

-- ---- no line is too long

pub length-trimmed-le : (text : List ℕ) → length (trimmed text) ≤ length text
length-trimmed-le text = let p = spaces_after text in omega (arith, ap length p.1, length-append (trimmed text))

-- the name and the cells of a field are short
abbrev is_short : FieldLayout → Bool
is_short f = nat_le (length f.name + f.width) 720

all_short : (kind : Kind) → list_all is_short (layout kind) ≡ true
all_short Hdr = refl
all_short this_kind = refl

found_passes : (p : FieldLayout → Bool) (fields : List FieldLayout) (i : ℕ) (f : FieldLayout) → list_all p fields ≡ true
    → slice_get fields i ≡ Some f → p f ≡ true
found_passes p [] i f h e = absurd (cc e)
found_passes p (g ∷ fields) zero f h e = let same : g ≡ f = cc e in ap p (sym same) ∙ (and_parts (p g) (list_all p fields) h).0
found_passes p (g ∷ fields) (suc i) f h e = found_passes p fields i f (and_parts (p g) (list_all p fields) h).1 e

some_before : (o : Option FieldLayout) (found : Option (List ℕ)) (cell : List ℕ) → option_and_then (λ _. found) o ≡ Some cell
    → (f : FieldLayout) × (o ≡ Some f)
some_before None found cell e = absurd (cc e)
some_before (Some f) found cell e = (f, refl)

-- the field of a cell that is carried is the field of that number
pub carried_field : (r : RecordValue) (j : ℕ) (p : ℕ × FieldLayout) (cell : List ℕ) → Some cell ≡ record_cell r j
    → Some p ≡ field_with_start r.kind j → carried_at r.kind j ≡ Some p.1
carried_field r j p cell e place =
    let there = some_before (carried_at r.kind j) _ cell (sym e) in
    let at : field_at r.kind j ≡ Some there.0 = (open_some (field_at r.kind j) there.0 there.1).0 in
    there.1 ∙ sym at ∙ sym (field_at-start r.kind j) ∙ ap (option_map (λ (q : ℕ × FieldLayout). q.1)) (sym place)

-- its name and its cell are short
pub short_line : (r : RecordValue) (j : ℕ) (p : ℕ × FieldLayout) (cell : List ℕ) → IsRecord r → Some cell ≡ record_cell r j
    → Some p ≡ field_with_start r.kind j → length p.1.name + length cell ≤ 720
short_line r zero p cell h e place = absurd (cc e)
short_line r (suc i) p cell h e place =
    let carried = carried_field r (suc i) p cell e place in
    let at = record_cell-at r (suc i) p.1 h carried in
    let same : cell ≡ at.cell = cc (e, at.found) in
    let found : slice_get (layout r.kind) i ≡ Some p.1 = (open_some (field_at r.kind (suc i)) p.1 carried).0 in
    let short : nat_le (length p.1.name + p.1.width) 720 ≡ true =
    found_passes is_short (layout r.kind) i p.1 (all_short r.kind) found in
    within (length p.1.name) p.1.width (length cell) short (ap length same ∙ at.is_cell.0)
  where
    within : (a b c : ℕ) → nat_le (a + b) 720 ≡ true → c ≡ b → a + c ≤ 720
    within a b c h e = grind (arith, h, e)
