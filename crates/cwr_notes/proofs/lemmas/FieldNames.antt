-- The first field of a name, as a walk over the fields of a kind finds it, and the line on its cell.
use Rattle.std.proofs.Common.{◌≡◌, ℕ, zero, suc, ◌+◌, ◌<◌, ◌≤◌, Bool, true, false, cond, not, List, [], ◌∷◌, length, Option, Some}
use Rattle.std.proofs.Common.{None, refl, sym, ap, ap₂, subst, ◌∙◌, arith}
use Rattle.std.specs.Prelude.{option_map, slice_get}
use Rattle.std.specs.List.{prefix_len}
use Rattle.std.specs.Option.{option_and_then}
use Rattle.std.specs.Str.{bytes_eq}
use Rattle.std.proofs.lemmas.Option.{slice_get-get_or}
use Rattle.cwr_fields.specs.declared.kinds.Kind.{Kind}
use Rattle.cwr_fields.specs.Format.Layouts.{FieldLayout, layout, record_type, field_at, field_with_start}
use Rattle.cwr_lines.specs.Format.Records.{RecordValue}
use Rattle.cwr_lines.specs.Format.Carried.{carried_at, record_cell}
use Rattle.cwr_fields.proofs.lemmas.FieldStarts.{field_at-start}
use Rattle.cwr_findings.specs.Format.Fields.{index_of_name}
use Rattle.cwr_notes.specs.Format.FindingNotes.{named_line, noted_line, number_of_field}
use Rattle.cwr_notes.proofs.lemmas.CellsOfFields.{carried_field}

-- ---- how many pass at the front

prefix_within : {X : Type 0} (p : X → Bool) (xs : List X) → prefix_len p xs ≤ length xs
prefix_within p [] = omega arith
prefix_within p (x ∷ xs) = by (p x) (prefix_within p xs)
  where
    by : (b : Bool) → prefix_len p xs ≤ length xs → cond b (1 + prefix_len p xs) 0 ≤ length (x ∷ xs)
    by true rest = omega (arith, rest)
    by false rest = omega arith

prefix_passes : {X : Type 0} (p : X → Bool) (xs : List X) (i : ℕ) (x : X) → slice_get xs i ≡ Some x → i ≤ prefix_len p xs
    → p x ≡ true → i + 1 ≤ prefix_len p xs
prefix_passes p [] i x e h t = absurd (cc e)
prefix_passes p (y ∷ xs) zero x e h t =
    let same : y ≡ x = cc e in subst (λ (b : Bool). 0 + 1 ≤ cond b (1 + prefix_len p xs) 0) (sym (ap p same ∙ t)) (omega arith)
prefix_passes p (y ∷ xs) (suc i) x e h t = by (p y) (λ k. prefix_passes p xs i x e k t) h
  where
    by : (b : Bool) → (i ≤ prefix_len p xs → i + 1 ≤ prefix_len p xs) → suc i ≤ cond b (1 + prefix_len p xs) 0
        → suc i + 1 ≤ cond b (1 + prefix_len p xs) 0
    by true rest k = omega (arith, rest (omega (arith, k)))
    by false rest k = absurd (omega (arith, k))

prefix_stops : {X : Type 0} (p : X → Bool) (xs : List X) (i : ℕ) (x : X) → slice_get xs i ≡ Some x → i ≤ prefix_len p xs
    → p x ≡ false → i ≡ prefix_len p xs
prefix_stops p [] i x e h t = absurd (cc e)
prefix_stops p (y ∷ xs) zero x e h t =
    let same : y ≡ x = cc e in subst (λ (b : Bool). 0 ≡ cond b (1 + prefix_len p xs) 0) (sym (ap p same ∙ t)) refl
prefix_stops p (y ∷ xs) (suc i) x e h t = by (p y) (λ k. prefix_stops p xs i x e k t) h
  where
    by : (b : Bool) → (i ≤ prefix_len p xs → i ≡ prefix_len p xs) → suc i ≤ cond b (1 + prefix_len p xs) 0
        → suc i ≡ cond b (1 + prefix_len p xs) 0
    by true rest k = omega (arith, rest (omega (arith, k)))
    by false rest k = absurd (omega (arith, k))

-- ---- the walk

-- the field of that number is that of the layout
field_there : (kind : Kind) (i : ℕ) (p : ℕ × FieldLayout) → Some p ≡ field_with_start kind (suc i)
    → slice_get (layout kind) i ≡ Some p.1
field_there kind i p e = sym (field_at-start kind (suc i)) ∙ ap (option_map (λ (q : ℕ × FieldLayout). q.1)) (sym e)

field_missing : (kind : Kind) (i : ℕ) → None ≡ field_with_start kind (suc i) → i < length (layout kind) → ⊥
field_missing kind i e h =
    let none : slice_get (layout kind) i ≡ None =
    sym (field_at-start kind (suc i)) ∙ ap (option_map (λ (q : ℕ × FieldLayout). q.1)) (sym e) in
    let some : slice_get (layout kind) i ≡ Some _ = slice_get-get_or (layout kind) i record_type h in
    absurd (cc (none, some))

next_is : (i : ℕ) → suc i ≡ i + 1
next_is i = omega arith

-- another field doesn't end it
pub other_name : (name : List ℕ) (kind : Kind) (i : ℕ) (p : ℕ × FieldLayout) → Some p ≡ field_with_start kind (i + 1)
    → bytes_eq p.1.name name ≡ false → i ≤ index_of_name name (layout kind) → i + 1 ≤ index_of_name name (layout kind)
other_name name kind i p e h before =
    prefix_passes (λ (f : FieldLayout). not (bytes_eq f.name name)) (layout kind) i p.1
    (field_there kind i p (e ∙ ap (field_with_start kind) (sym (next_is i)))) before (ap not h)

-- its own does
pub own_name : (name : List ℕ) (kind : Kind) (i : ℕ) (p : ℕ × FieldLayout) → Some p ≡ field_with_start kind (i + 1)
    → bytes_eq p.1.name name ≡ true → i ≤ index_of_name name (layout kind) → i + 1 ≡ number_of_field name kind
own_name name kind i p e h before =
    let here : i ≡ index_of_name name (layout kind)
    = prefix_stops (λ (f : FieldLayout). not (bytes_eq f.name name)) (layout kind) i p.1
    (field_there kind i p (e ∙ ap (field_with_start kind) (sym (next_is i)))) before (ap not h) in
    omega (arith, here)

-- each number up to the last has a field
pub none_missing : (kind : Kind) (i : ℕ) → None ≡ field_with_start kind (i + 1) → i < length (layout kind) → ⊥
none_missing kind i e h = field_missing kind i (e ∙ ap (field_with_start kind) (sym (next_is i))) h

-- and after the last no name was found
pub no_name : (name : List ℕ) (kind : Kind) (i : ℕ) → length (layout kind) ≤ i → i ≤ index_of_name name (layout kind)
    → length (layout kind) + 1 ≡ number_of_field name kind
no_name name kind i end before =
    let all = prefix_within (λ (f : FieldLayout). not (bytes_eq f.name name)) (layout kind) in
    omega (arith, all, end, before)

-- ---- the line

noted_line-none : (n : ℕ) (this_kind : Kind) (o : Option FieldLayout) → noted_line n this_kind o None ≡ []
noted_line-none n this_kind None = refl
noted_line-none n this_kind (Some f) = refl

pub uncarried_note : (n : ℕ) (r : RecordValue) (j : ℕ) → None ≡ record_cell r j
    → noted_line n r.kind (carried_at r.kind j) (record_cell r j) ≡ []
uncarried_note n r j e =
    ap (noted_line n r.kind (carried_at r.kind j)) (sym e) ∙ noted_line-none n r.kind (carried_at r.kind j)

pub no_note : (n : ℕ) (r : RecordValue) (j : ℕ) → None ≡ field_with_start r.kind j
    → noted_line n r.kind (carried_at r.kind j) (record_cell r j) ≡ []
no_note n r j place =
    let none : field_at r.kind j ≡ None =
    sym (field_at-start r.kind j) ∙ ap (option_map (λ (q : ℕ × FieldLayout). q.1)) (sym place) in
    ap (λ (o : Option FieldLayout). noted_line n r.kind (option_and_then (λ f. cond f.derived None (Some f)) o) (record_cell r j))
    none

pub carried_note : (n : ℕ) (r : RecordValue) (j : ℕ) (p : ℕ × FieldLayout) (cell : List ℕ) → Some cell ≡ record_cell r j
    → Some p ≡ field_with_start r.kind j
    → noted_line n r.kind (Some p.1) (Some cell) ≡ noted_line n r.kind (carried_at r.kind j) (record_cell r j)
carried_note n r j p cell e place =
    ap₂ (λ (o : Option FieldLayout) (found : Option (List ℕ)). noted_line n r.kind o found) (sym (carried_field r j p cell e place)) e

pub named_at : (n : ℕ) (r : RecordValue) (name : List ℕ) (j : ℕ) → j ≡ number_of_field name r.kind
    → noted_line n r.kind (carried_at r.kind j) (record_cell r j) ≡ named_line n r name
unfolding named_line
named_at n r name j e = ap (λ (i : ℕ). noted_line n r.kind (carried_at r.kind i) (record_cell r i)) e
