-- Why members are data of no record: what is told of them is so.
use Rattle.std.proofs.Common.{◌≡◌, ℕ, zero, suc, ◌+◌, ◌<◌, ◌≤◌, Bool, true, false, cond, List, [], ◌∷◌, ◌++◌, length, Option}
use Rattle.std.proofs.Common.{Some, None, refl, sym, ap, subst, ◌∙◌, arith, true≢false, inl, inr}
use Rattle.std.specs.Prelude.{◌||◌, count_by, option_map, unwrap_or, slice_get, IsSomeAnd, Result, Ok, Err, IfErr, OnErr, OnOk}
use Rattle.std.specs.List.{AllZip, list_any}
use Rattle.std.specs.Option.{option_and_then}
use Rattle.std.specs.Str.{bytes_eq}
use Rattle.std.proofs.lemmas.Bool.{cases_lt, or_from, or_left, or_right}
use Rattle.std.proofs.lemmas.List.Folds.{list_any-append}
use Rattle.std.proofs.lemmas.List.Sums.{sum_by-append, sum_by-cons}
use Rattle.json.specs.Json.{Json, Members, string}
use Rattle.json.specs.Strict.{keys}
use Rattle.cwr_fields.specs.declared.kinds.Kind.{Kind}
use Rattle.cwr_fields.specs.Format.Bytes.{filled}
use Rattle.cwr_fields.specs.Format.Cells.{HasFault}
use Rattle.cwr_lines.specs.Format.Carried.{Sets, carried_at, carried_before}
use Rattle.cwr_fields.specs.Format.Layouts.{FieldLayout, field_at, layout}
use Rattle.cwr_lines.specs.Format.Records.{RecordValue, carried_fields}
use Rattle.cwr_lines.proofs.lemmas.CarriedCells.{open_some}
use Rattle.cwr_json.specs.declared.encodings.Encoding.{Encoding}
use Rattle.cwr_json.specs.Format.Encodings.{StandFor}
use Rattle.cwr_json.specs.Format.Forms.{IsCellFrom, first_of, key_of}
use Rattle.cwr_json.proofs.lemmas.Encoded.{one_text}
use Rattle.cwr_json.proofs.lemmas.OwnData.{same_bytes}
use Rattle.cwr_write.specs.declared.refusals.Key.{Key}
use Rattle.cwr_write.specs.declared.refusals.Key.TheVariants as said_of
use Rattle.cwr_write.specs.declared.refusals.Why.{Why}
use Rattle.cwr_write.specs.declared.refusals.Why.TheVariants as whys
use Rattle.cwr_write.specs.Format.Faults.{AreBytes, IsMemberReason, IsValueReason, TellsKey}
use Rattle.cwr_write.specs.Steps.Filling.{FitsField, IsBytesReason, IsDraftReason, IsFilled, joined, names_field, with_last}
use Rattle.cwr_write.proofs.lemmas.FilledDrafts.{carried_place, first-last, named}
use Rattle.cwr_write.proofs.lemmas.NoRecordData.{first-joined, keys-between}

-- ---- keys

among_between : (p : List ℕ → Bool) (ks more : List (List ℕ)) (k : List ℕ) → p k ≡ true → list_any p (ks ++ k ∷ more) ≡ true
among_between p ks more k h =
    list_any-append p ks (k ∷ more) ∙ or_right (list_any p ks) (list_any p (k ∷ more)) (or_left (p k) (list_any p more) h)

no_layout : (k : List ℕ) (fields : List FieldLayout)
    → ((i : ℕ) → unwrap_or (option_map (λ f. bytes_eq k (key_of f.name)) (slice_get fields i)) false ≡ false)
    → list_any (λ f. bytes_eq k (key_of f.name)) fields ≡ false
no_layout k [] h = refl
no_layout k (f ∷ fields) h =
    or_from (bytes_eq k (key_of f.name)) (list_any (λ g. bytes_eq k (key_of g.name)) fields) (h 0)
    (no_layout k fields (λ i. h (suc i)))

pub unknown_reason : (enc : Encoding) (kind : Kind) (ms rest : Members) (key : Key) (k : List ℕ) (v : Json) → TellsKey key k
    → ((j : ℕ) → names_field kind j k ≡ false) → IsMemberReason enc kind (joined (with_last ms k v) rest) key whys.UnknownKey
unknown_reason enc kind ms rest key k v tells none = (
  k,
  tells,
  ap (list_any (bytes_eq k)) (keys-between ms rest k v) ∙ among_between (bytes_eq k) (keys ms) (keys rest) k (same_bytes k),
  no_layout k (layout kind) (λ i. none (suc i)),
)

some_counted : (p : List ℕ → Bool) (ks : List (List ℕ)) → list_any p ks ≡ true → 0 < count_by p ks
some_counted p [] h = absurd (true≢false (sym h))
some_counted p (k ∷ ks) h = by (p k) refl (sum_by-cons (λ (x : List ℕ). cond (p x) 1 0) k ks) (some_counted p ks)
  where
    by : (b : Bool) → p k ≡ b → count_by p (k ∷ ks) ≡ cond (p k) 1 0 + count_by p ks → (list_any p ks ≡ true → 0 < count_by p ks)
        → 0 < count_by p (k ∷ ks)
    by true e c rest = omega (arith, c, ap {B = ℕ} (λ (x : Bool). cond x 1 0) e)
    by false e c rest = omega (arith, c, rest (sym (ap (λ (x : Bool). x || list_any p ks) e) ∙ h))

pub counted_between : (p : List ℕ → Bool) (ks more : List (List ℕ)) (k : List ℕ) → list_any p ks ≡ true → p k ≡ true
    → 1 < count_by p (ks ++ k ∷ more)
counted_between p ks more k h e =
    omega (
      arith,
      some_counted p ks h,
      sum_by-append (λ (x : List ℕ). cond (p x) 1 0) ks (k ∷ more),
      sum_by-cons (λ (x : List ℕ). cond (p x) 1 0) k more,
      ap {B = ℕ} (λ (x : Bool). cond x 1 0) e,
    )

-- of a field that is there
at_field : (kind : Kind) (j : ℕ) (f : FieldLayout) (P : FieldLayout → Type 0) → field_at kind j ≡ Some f → P f
    → IsSomeAnd (field_at kind j) P
at_field kind j f P e h = subst (λ (o : Option FieldLayout). IsSomeAnd o P) (sym e) h

pub repeated_reason : (enc : Encoding) (kind : Kind) (ms rest : Members) (j : ℕ) (k : List ℕ) (v : Json)
    → names_field kind j k ≡ true → list_any (bytes_eq k) (keys ms) ≡ true
    → IsMemberReason enc kind (joined (with_last ms k v) rest) (said_of.Field j) whys.Repeated
repeated_reason enc kind ms rest j k v names there =
    let f = named kind j k names in
    at_field kind j f.0 (λ g. 1 < count_by (bytes_eq (key_of g.name)) (keys (joined (with_last ms k v) rest))) f.1
    (subst (λ (l : List ℕ). 1 < count_by (bytes_eq l) (keys (joined (with_last ms k v) rest))) f.2
    (subst (λ (ks : List (List ℕ)). 1 < count_by (bytes_eq k) ks) (sym (keys-between ms rest k v))
    (counted_between (bytes_eq k) (keys ms) (keys rest) k there (same_bytes k))))

-- ---- values

value_member : (enc : Encoding) (kind : Kind) (ms : Members) (j : ℕ) (f : FieldLayout) (why : Why) → field_at kind j ≡ Some f
    → IsValueReason enc f (first_of (key_of f.name) ms) why → IsMemberReason enc kind ms (said_of.Field j) why
value_member enc kind ms j f whys.UnknownKey e h = absurd h
value_member enc kind ms j f whys.Repeated e h = absurd h
value_member enc kind ms j f why e h = at_field kind j f (λ g. IsValueReason enc g (first_of (key_of g.name) ms) why) e h

pub value_reason : (enc : Encoding) (kind : Kind) (ms rest : Members) (j : ℕ) (k : List ℕ) (v : Json) (why : Why)
    → names_field kind j k ≡ true → list_any (bytes_eq k) (keys ms) ≡ false
    → ((f : FieldLayout) → field_at kind j ≡ Some f → IsValueReason enc f (Some v) why)
    → IsMemberReason enc kind (joined (with_last ms k v) rest) (said_of.Field j) why
value_reason enc kind ms rest j k v why names none h =
    let f = named kind j k names in
    let whole : Members = joined (with_last ms k v) rest in
    let value : first_of (key_of f.0.name) whole ≡ Some v =
    ap (λ (l : List ℕ). first_of l whole) (sym f.2) ∙ first-joined k (with_last ms k v) rest v (first-last k ms v none) in
    value_member enc kind whole j f.0 why f.1 (subst (λ (o : Option Json). IsValueReason enc f.0 o why) (sym value) (h f.0 f.1))

pub wider : (w n : ℕ) → w ≤ 700 → (n ≤ 700 → ⊥) → w < n
wider w n h none = elim (cases_lt w n) [ inl lt ↦ lt | inr ge ↦ absurd (none (omega arith)) ]

pub too_wide : (kind : Kind) (j : ℕ) (f : FieldLayout) (n : ℕ) → field_at kind j ≡ Some f
    → IsSomeAnd (carried_at kind j) (λ g. g.width < n) → f.width < n
too_wide kind j f n at h = by (carried_at kind j) refl h
  where
    by : (o : Option FieldLayout) → carried_at kind j ≡ o → IsSomeAnd o (λ g. g.width < n) → f.width < n
    by None e k = absurd k
    by (Some g) e k =
        let same : f ≡ g = cc (at, (open_some (field_at kind j) g e).0) in subst (λ (x : FieldLayout). x.width < n) (sym same) k

-- what is so of a carried field is so of the field
pub of_carried : (kind : Kind) (j : ℕ) (f : FieldLayout) (P : FieldLayout → Type 0) → field_at kind j ≡ Some f
    → IsSomeAnd (carried_at kind j) P → P f
of_carried kind j f P at h = by (carried_at kind j) refl h
  where
    by : (o : Option FieldLayout) → carried_at kind j ≡ o → IsSomeAnd o P → P f
    by None e k = absurd k
    by (Some g) e k = let same : f ≡ g = cc (at, (open_some (field_at kind j) g e).0) in subst P (sym same) k

pub of_field : (kind : Kind) (j : ℕ) (f : FieldLayout) (P : FieldLayout → Type 0) → field_at kind j ≡ Some f
    → IsSomeAnd (field_at kind j) P → P f
of_field kind j f P at h = subst (λ (o : Option FieldLayout). IsSomeAnd o P) at h

-- bytes that are set are those of the characters
pub set_ok : {E : Type 0} (enc : Encoding) (shown text : List ℕ) (j : ℕ) (old new : RecordValue) (answer : Result (Unit {0}) E)
    → StandFor enc shown text → OnOk answer (Sets j text old new)
    → OnOk answer ((cell : List ℕ) × StandFor enc shown cell × Sets j cell old new)
set_ok enc shown text j old new (Ok x) stands h = (text, stands, h)
set_ok enc shown text j old new (Err e) stands h = tt

pub unset_err : {A E : Type 0} (enc : Encoding) (kind : Kind) (j : ℕ) (shown text : List ℕ) (answer : Result A E)
    → StandFor enc shown text → OnErr answer (¬ FitsField kind j text)
    → OnErr answer ((cell : List ℕ) → StandFor enc shown cell → ¬ FitsField kind j cell)
unset_err enc kind j shown text (Ok x) stands h = tt
unset_err enc kind j shown text (Err e) stands h =
    λ cell other fits. h (subst (FitsField kind j) (one_text enc shown cell text other stands) fits)

-- what is told of a text that isn't set is so of the value
pub bytes_reason : (enc : Encoding) (kind : Kind) (j : ℕ) (f : FieldLayout) (shown text : List ℕ) (why : Why)
    → field_at kind j ≡ Some f → f.derived ≡ false → StandFor enc shown text → AreBytes text → IsBytesReason kind j text why
    → IsValueReason enc f (Some (string shown)) why
bytes_reason enc kind j f shown text whys.UnknownKey at d stands bytes h =
    let none : None ≡ Some f = sym h ∙ at in absurd (cc none)
bytes_reason enc kind j f shown text whys.Computed at d stands bytes h =
    absurd (true≢false (sym (of_field kind j f (λ g. g.derived ≡ true) at h) ∙ d))
bytes_reason enc kind j f shown text whys.TooWide at d stands bytes h =
    (d, (text, bytes, stands, of_carried kind j f (λ g. g.width < length text) at h))
bytes_reason enc kind j f shown text (whys.Cell fault) at d stands bytes h =
    let p = of_carried kind j f (λ g. (length text ≤ g.width) × HasFault g.ty (filled g.width text) fault) at h in
    (d, (filled f.width text, (text, stands, p.0, refl), p.1))
bytes_reason enc kind j f shown text why at d stands bytes h = absurd h

-- ---- drafts

beside_cell : (P : FieldLayout → List ℕ → Type 0) (fields : List FieldLayout) (cells : List (List ℕ)) (i : ℕ) (f : FieldLayout)
    (cell : List ℕ) → slice_get fields i ≡ Some f → slice_get cells i ≡ Some cell → AllZip P fields cells → P f cell
beside_cell P [] cells i f cell e k h = absurd (cc e)
beside_cell P (g ∷ fields) [] i f cell e k h = absurd h
beside_cell P (g ∷ fields) (c ∷ cells) zero f cell e k h =
    let same : g ≡ f =
    cc e in let there : c ≡ cell = cc k in subst (λ (x : List ℕ). P f x) there (subst (λ (x : FieldLayout). P x c) same h.0)
beside_cell P (g ∷ fields) (c ∷ cells) (suc i) f cell e k h = beside_cell P fields cells i f cell e k h.1

found_cell : (o : Option FieldLayout) (found : Option (List ℕ)) (P : FieldLayout → List ℕ → Type 0)
    → IsSomeAnd o (λ f. IsSomeAnd (option_and_then (λ _. found) o) (P f))
    → (f : FieldLayout) × (cell : List ℕ) × (o ≡ Some f) × (found ≡ Some cell) × P f cell
found_cell None found P h = absurd h
found_cell (Some f) None P h = absurd h
found_cell (Some f) (Some cell) P h = (f, cell, refl, refl, h)

draft_field : (enc : Encoding) (kind : Kind) (ms : Members) (draft : RecordValue) (seen : List Bool) (j : ℕ) (why : Why)
    → IsFilled enc kind ms draft seen → IsDraftReason draft (said_of.Field j) why
    → IsMemberReason enc kind ms (said_of.Field j) why
draft_field enc kind ms draft seen j (whys.Cell fault) h d =
    let there = found_cell (carried_at draft.kind j) _ (λ f cell. HasFault f.ty cell fault) d in
    let at : carried_at kind j ≡ Some there.0 = ap (λ (k : Kind). carried_at k j) (sym h.kind_is) ∙ there.2 in
    let opened = open_some (field_at kind j) there.0 at in
    let cell_at : slice_get draft.cells (carried_before kind j) ≡ Some there.1 =
    ap (λ (k : Kind). slice_get draft.cells (carried_before k j)) (sym h.kind_is) ∙ there.3 in
    let from : IsCellFrom enc there.0 (first_of (key_of there.0.name) ms) there.1
    = beside_cell (λ f cell. IsCellFrom enc f (first_of (key_of f.name) ms) cell) (carried_fields kind) draft.cells
    (carried_before kind j) there.0 there.1 (carried_place kind j there.0 opened.0 opened.1) cell_at h.cells in
    value_member enc kind ms j there.0 (whys.Cell fault) opened.0 (opened.1, (there.1, from, there.4))
draft_field enc kind ms draft seen j why h d = absurd d

pub draft_reason : {X : Type 0} (enc : Encoding) (kind : Kind) (ms : Members) (draft : RecordValue) (seen : List Bool)
    (answer : Result X (Key × Why)) → IsFilled enc kind ms draft seen → IfErr answer (λ f. IsDraftReason draft f.0 f.1) → IfErr
    answer (λ f. IsMemberReason enc kind ms f.0 f.1)
draft_reason {X = X} enc kind ms draft seen (Ok x) h d = tt
draft_reason {X = X} enc kind ms draft seen (Err (said_of.Field j, why)) h d = draft_field enc kind ms draft seen j why h d
draft_reason {X = X} enc kind ms draft seen (Err (key, why)) h d = absurd d
