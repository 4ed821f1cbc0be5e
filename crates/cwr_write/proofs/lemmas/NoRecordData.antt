-- Members that no record has for its data: by one of them.
use Rattle.std.proofs.Common.{◌≡◌, ℕ, zero, suc, ◌≤◌, Bool, true, false, not, cond, List, [], ◌∷◌, ◌++◌, length, map, take, drop}
use Rattle.std.proofs.Common.{Option, Some, None, refl, sym, ap, subst, ◌∙◌, arith, true≢false, append_assoc}
use Rattle.std.specs.Prelude.{option_map, unwrap_or, slice_get, IsSomeAnd}
use Rattle.std.specs.Option.{option_and_then}
use Rattle.std.specs.Borrow.{Bor}
use Rattle.std.specs.List.{AllZip, filter, list_all, list_any}
use Rattle.std.specs.Str.{bytes_eq}
use Rattle.std.proofs.lemmas.Bool.{and_parts, not-true, or_from, or_parts}
use Rattle.std.proofs.lemmas.List.{map-append, take-append-drop}
use Rattle.json.specs.Json.{Json, null, boolean, number, string, array, object, Members, no_members, member}
use Rattle.json.specs.Strict.{keys}
use Rattle.json.specs.Value.{members_of, members_view, value_view}
use Rattle.json.specs.declared.value.Value.{Value}
use Rattle.cwr_fields.specs.Format.Bytes.{filled}
use Rattle.cwr_fields.specs.Format.Cells.{Allows}
use Rattle.cwr_fields.specs.declared.kinds.Kind.{Kind}
use Rattle.cwr_lines.specs.declared.drafts.SetFault.{SetFault}
use Rattle.cwr_lines.specs.declared.drafts.SetFault.TheVariants as set_faults
use Rattle.cwr_fields.specs.Format.Layouts.{FieldLayout, field_at, layout, record_type}
use Rattle.cwr_lines.specs.Format.Records.{RecordValue, IsCellOf, carried_fields}
use Rattle.cwr_lines.specs.Format.Carried.{IsSetFault, carried_at, carried_before}
use Rattle.cwr_lines.proofs.lemmas.CarriedCells.{open_some}
use Rattle.cwr_json.specs.declared.encodings.Encoding.{Encoding}
use Rattle.cwr_json.specs.Format.Forms.{IsCellFrom, IsDataOf, are_distinct, first_of, is_known, key_of, kind_key, says, told}
use Rattle.cwr_json.proofs.lemmas.OwnData.{bytes_same}
use Rattle.cwr_write.specs.Steps.Filling.{FitsField, IsTextOf, NoneFrom, joined, names_field, with_last}
use Rattle.cwr_write.proofs.lemmas.FilledDrafts.{carried_place, first-last, flipped, keys-last, named, one_number}

-- ---- members, and others after them

keys-joined : (ms more : Members) → keys (joined ms more) ≡ keys ms ++ keys more
unfolding joined
keys-joined no_members more = refl
keys-joined (member k j ms) more = ap (λ (ks : List (List ℕ)). k ∷ ks) (keys-joined ms more)

-- one that was last stands between
pub keys-between : (ms more : Members) (k : List ℕ) (j : Json) → keys (joined (with_last ms k j) more) ≡ keys ms ++ k ∷ keys more
keys-between ms more k j =
    keys-joined (with_last ms k j) more ∙ ap (λ (ks : List (List ℕ)). ks ++ keys more) (keys-last ms k j)
    ∙ append_assoc (keys ms) (k ∷ []) (keys more)

pub first-joined : (k : List ℕ) (ms more : Members) (j : Json) → first_of k ms ≡ Some j → first_of k (joined ms more) ≡ Some j
unfolding joined first_of
first-joined k no_members more j e = absurd (cc e)
first-joined k (member l i ms) more j e = by (bytes_eq k l) (λ h. first-joined k ms more j h) e
  where
    by : (b : Bool) → (first_of k ms ≡ Some j → first_of k (joined ms more) ≡ Some j) → cond b (Some i) (first_of k ms) ≡ Some j
        → cond b (Some i) (first_of k (joined ms more)) ≡ Some j
    by true later h = h
    by false later h = later h

told_both : (xs ys : List (Bor (List ℕ) × Json))
    → told (members_of (xs ++ ys)) ≡ joined (told (members_of xs)) (told (members_of ys))
unfolding told joined
told_both [] ys = refl
told_both (x ∷ xs) ys = by (says x.0.now x.1) (told_both xs ys)
  where
    by : (b : Bool) → told (members_of (xs ++ ys)) ≡ joined (told (members_of xs)) (told (members_of ys))
        → cond b (member x.0.now x.1 (told (members_of (xs ++ ys)))) (told (members_of (xs ++ ys)))
        ≡ joined (cond b (member x.0.now x.1 (told (members_of xs))) (told (members_of xs))) (told (members_of ys))
    by true e = ap (λ (ms : Members). member x.0.now x.1 ms) e
    by false e = e

pub told_parts : {A : Type 0} (items : List (Bor (List ℕ) × Value A)) (i : ℕ)
    → told (members_view items) ≡ joined (told (members_view (take i items))) (told (members_view (drop i items)))
told_parts {A = A} items i =
    let view : (Bor (List ℕ) × Value A) → (Bor (List ℕ) × Json) = λ x. (x.0, value_view x.1) in
    ap (λ (l : List (Bor (List ℕ) × Value A)). told (members_view l)) (sym (take-append-drop i items))
    ∙ ap (λ (l : List (Bor (List ℕ) × Json)). told (members_of l)) (map-append view (take i items) (drop i items))
    ∙ told_both (map view (take i items)) (map view (drop i items))

-- no record has members that begin with those of which none has
pub none_whole : {A : Type 0} (enc : Encoding) (items : List (Bor (List ℕ) × Value A)) (i : ℕ) (kind : Kind)
    → NoneFrom enc kind (told (members_view (take i items))) → (r : RecordValue) → r.kind ≡ kind
    → ¬ IsDataOf enc (told (members_view items)) r
none_whole {A = A} enc items i kind none r k h =
    none (told (members_view (drop i items))) r k (subst (λ (ms : Members). IsDataOf enc ms r) (told_parts items i) h)

-- ---- a key that isn't known

type_first : (kind : Kind) → field_at kind 1 ≡ Some record_type
type_first kind = refl

amid : (p : List ℕ → Bool) (ks more : List (List ℕ)) (k : List ℕ) → list_all p (ks ++ k ∷ more) ≡ true → p k ≡ true
amid p [] more k h = (and_parts (p k) (list_all p more) h).0
amid p (l ∷ ks) more k h = amid p ks more k (and_parts (p l) (list_all p (ks ++ k ∷ more)) h).1

unknown : (enc : Encoding) (kind : Kind) (ms : Members) (k : List ℕ) (v : Json) → is_known kind k ≡ false
    → NoneFrom enc kind (with_last ms k v)
unknown enc kind ms k v e = λ rest r same h.
    let known : list_all (is_known kind) (keys ms ++ k ∷ keys rest) ≡ true
    = ap (list_all (is_known kind)) (sym (keys-between ms rest k v))
    ∙ ap (λ (x : Kind). list_all (is_known x) (keys (joined (with_last ms k v) rest))) (sym same) ∙ h.known in
    true≢false (sym (amid (is_known kind) (keys ms) (keys rest) k known) ∙ e)

-- the key of no carried field
no_carried : (k : List ℕ) (fields : List FieldLayout)
    → ((i : ℕ) (f : FieldLayout) → slice_get fields i ≡ Some f → f.derived ≡ false → bytes_eq k (key_of f.name) ≡ false)
    → list_any (λ f. bytes_eq k (key_of f.name)) (filter (λ f. not f.derived) fields) ≡ false
no_carried k [] h = refl
no_carried k (f ∷ fields) h = by f.derived refl (no_carried k fields (λ i g e d. h (suc i) g e d))
  where
    by : (b : Bool) → f.derived ≡ b → list_any (λ g. bytes_eq k (key_of g.name)) (filter (λ g. not g.derived) fields) ≡ false
        → list_any (λ g. bytes_eq k (key_of g.name))
        (cond (not b) (f ∷ filter (λ g. not g.derived) fields) (filter (λ g. not g.derived) fields)) ≡ false
    by true e rest = rest
    by false e rest =
        or_from (bytes_eq k (key_of f.name)) (list_any (λ g. bytes_eq k (key_of g.name)) (filter (λ g. not g.derived) fields))
        (h 0 f refl e) rest

unknown_by : (kind : Kind) (k : List ℕ) → bytes_eq k kind_key ≡ false
    → ((j : ℕ) (f : FieldLayout) → field_at kind j ≡ Some f → f.derived ≡ false → bytes_eq k (key_of f.name) ≡ false)
    → is_known kind k ≡ false
unknown_by kind k first others =
    or_from (bytes_eq k kind_key) (list_any (λ f. bytes_eq k (key_of f.name)) (carried_fields kind)) first
    (no_carried k (layout kind) (λ i f e d. others (suc i) f e d))

no_key : (kind : Kind) (k : List ℕ) (j : ℕ) (f : FieldLayout) → names_field kind j k ≡ false → field_at kind j ≡ Some f
    → bytes_eq k (key_of f.name) ≡ false
no_key kind k j f h e =
    sym (ap (λ (o : Option FieldLayout). unwrap_or (option_map (λ g. bytes_eq k (key_of g.name)) o) false) e) ∙ h

pub unknown_key : (enc : Encoding) (kind : Kind) (ms : Members) (k : List ℕ) (v : Json) → ((j : ℕ) → names_field kind j k ≡ false)
    → NoneFrom enc kind (with_last ms k v)
unknown_key enc kind ms k v none =
    unknown enc kind ms k v
    (unknown_by kind k (no_key kind k 1 record_type (none 1) (type_first kind)) (λ j f e d. no_key kind k j f (none j) e))

-- ---- a key that comes twice

once : (ks more : List (List ℕ)) (k : List ℕ) → are_distinct (ks ++ k ∷ more) ≡ true → list_any (bytes_eq k) ks ≡ false
once [] more k h = refl
once (l ∷ ks) more k h =
    let parts = and_parts (not (list_any (bytes_eq l) (ks ++ k ∷ more))) (are_distinct (ks ++ k ∷ more)) h in
    or_from (bytes_eq k l) (list_any (bytes_eq k) ks) (flipped l k (apart ks (not-true _ parts.0))) (once ks more k parts.1)
  where
    apart : (js : List (List ℕ)) → list_any (bytes_eq l) (js ++ k ∷ more) ≡ false → bytes_eq l k ≡ false
    apart [] e = (or_parts (bytes_eq l k) (list_any (bytes_eq l) more) e).0
    apart (j ∷ js) e = apart js (or_parts (bytes_eq l j) (list_any (bytes_eq l) (js ++ k ∷ more)) e).1

pub repeated_key : (enc : Encoding) (kind : Kind) (ms : Members) (k : List ℕ) (v : Json) → list_any (bytes_eq k) (keys ms) ≡ true
    → NoneFrom enc kind (with_last ms k v)
repeated_key enc kind ms k v there = λ rest r same h.
    true≢false (sym there ∙ once (keys ms) (keys rest) k (ap are_distinct (sym (keys-between ms rest k v)) ∙ h.once))

-- ---- a value that is no cell of its field

derived_if : (b : Bool) (f : FieldLayout) → f.derived ≡ b → cond b None (Some f) ≡ None → f.derived ≡ true
derived_if true f d e = d
derived_if false f d e = absurd (cc e)

-- a computed field's key is none of the data
computed : (enc : Encoding) (kind : Kind) (ms : Members) (k : List ℕ) (v : Json) (j : ℕ) (f : FieldLayout)
    → field_at kind j ≡ Some f → k ≡ key_of f.name → f.derived ≡ true → (j ≡ 1 → ⊥) → NoneFrom enc kind (with_last ms k v)
computed enc kind ms k v j f at key d later =
    unknown enc kind ms k v (unknown_by kind k (by (bytes_eq k kind_key) refl
    (λ e. later (one_number kind j 1 f record_type at (type_first kind) (sym key ∙ bytes_same k kind_key e)))) (λ i g there
    carried. by (bytes_eq k (key_of g.name)) refl (λ e. other i g there carried e)))
  where
    by : (b : Bool) → b ≡ b → (b ≡ true → ⊥) → b ≡ false
    by false e n = refl
    by true e n = absurd (n refl)

    other : (i : ℕ) (g : FieldLayout) → field_at kind i ≡ Some g → g.derived ≡ false → bytes_eq k (key_of g.name) ≡ true → ⊥
    other i g there carried e =
        let same_number : j ≡ i = one_number kind j i f g at there (sym key ∙ bytes_same k (key_of g.name) e) in
        let same : f ≡ g = cc (at, ap (field_at kind) same_number, there) in
        true≢false (sym d ∙ ap (λ (x : FieldLayout). x.derived) same ∙ carried)

place_both : (P Q : FieldLayout → List ℕ → Type 0) (fields : List FieldLayout) (cells : List (List ℕ)) (i : ℕ) (f : FieldLayout)
    → slice_get fields i ≡ Some f → AllZip P fields cells → AllZip Q fields cells → (cell : List ℕ) × P f cell × Q f cell
place_both P Q [] cells i f e p q = absurd (cc e)
place_both P Q (g ∷ fields) [] i f e p q = absurd p
place_both P Q (g ∷ fields) (c ∷ cells) zero f e p q =
    let same : g ≡ f = cc e in (c, subst (λ (x : FieldLayout). P x c) same p.0, subst (λ (x : FieldLayout). Q x c) same q.0)
place_both P Q (g ∷ fields) (c ∷ cells) (suc i) f e p q = place_both P Q fields cells i f e p.1 q.1

-- the value of a carried field is one of its cells
carried : (enc : Encoding) (kind : Kind) (ms : Members) (k : List ℕ) (v : Json) (j : ℕ) (f : FieldLayout)
    → carried_at kind j ≡ Some f → k ≡ key_of f.name → list_any (bytes_eq k) (keys ms) ≡ false
    → ((cell : List ℕ) → IsTextOf enc v cell → ¬ FitsField kind j cell) → NoneFrom enc kind (with_last ms k v)
carried enc kind ms k v j f at key none unfit = λ rest r same h.
    let opened = open_some (field_at kind j) f at in
    let whole : Members = joined (with_last ms k v) rest in
    let value : first_of (key_of f.name) whole ≡ Some v =
    ap (λ (l : List ℕ). first_of l whole) (sym key) ∙ first-joined k (with_last ms k v) rest v (first-last k ms v none) in
    let cells : AllZip (λ g cell. IsCellFrom enc g (first_of (key_of g.name) whole) cell) (carried_fields kind) r.cells =
    subst (λ (x : Kind). AllZip (λ g cell. IsCellFrom enc g (first_of (key_of g.name) whole) cell) (carried_fields x) r.cells)
    same h.cells in
    let fits : AllZip IsCellOf (carried_fields kind) r.cells =
    subst (λ (x : Kind). AllZip IsCellOf (carried_fields x) r.cells) same h.fits in
    let both =
    place_both (λ g cell. IsCellFrom enc g (first_of (key_of g.name) whole) cell) IsCellOf (carried_fields kind) r.cells
    (carried_before kind j) f (carried_place kind j f opened.0 opened.1) cells fits in
    by v refl both.0 (subst (λ (o : Option Json). IsCellFrom enc f o both.0) value both.1) both.2
  where
    by : (w : Json) → v ≡ w → (cell : List ℕ) → IsCellFrom enc f (Some w) cell → IsCellOf f cell → ⊥
    by null e cell from is = from
    by (boolean b) e cell from is = from
    by (number n) e cell from is = from
    by (array js) e cell from is = from
    by (object os) e cell from is = from
    by (string s) e cell from is =
        unfit from.0 (s, e, from.1)
        (subst (λ (o : Option FieldLayout). IsSomeAnd o (λ g. (length from.0 ≤ g.width) × Allows g.ty (filled g.width from.0)))
        (sym at) (from.2, subst (Allows f.ty) from.3 is.1))

pub unfit_value : (enc : Encoding) (kind : Kind) (ms : Members) (k : List ℕ) (v : Json) (j : ℕ) → names_field kind j k ≡ true
    → (j ≡ 1 → ⊥) → list_any (bytes_eq k) (keys ms) ≡ false → ((cell : List ℕ) → IsTextOf enc v cell → ¬ FitsField kind j cell)
    → NoneFrom enc kind (with_last ms k v)
unfit_value enc kind ms k v j names later none unfit = by (carried_at kind j) refl
  where
    there : (f : FieldLayout) × (field_at kind j ≡ Some f) × (k ≡ key_of f.name)
    there = named kind j k names

    by : (o : Option FieldLayout) → carried_at kind j ≡ o → NoneFrom enc kind (with_last ms k v)
    by None e =
        computed enc kind ms k v j there.0 there.1 there.2 (derived_if there.0.derived there.0 refl
        (sym (ap (λ (o : Option FieldLayout). option_and_then (λ g. cond g.derived None (Some g)) o) there.1) ∙ e)) later
    by (Some f) e =
        let same : there.0 ≡ f = cc (there.1, (open_some (field_at kind j) f e).0) in
        carried enc kind ms k v j f e (there.2 ∙ ap (λ (x : FieldLayout). key_of x.name) same) none unfit

-- ---- a text that isn't set

no_field : (kind : Kind) (j : ℕ) (text : List ℕ) → carried_at kind j ≡ None → ¬ FitsField kind j text
no_field kind j text e h =
    subst (λ (o : Option FieldLayout). IsSomeAnd o (λ f. (length text ≤ f.width) × Allows f.ty (filled f.width text))) e h

with_fault : (o : Option FieldLayout) (P Q : FieldLayout → Type 0) → IsSomeAnd o P → IsSomeAnd o Q
    → ((f : FieldLayout) → P f → Q f → ⊥) → ⊥
with_fault None P Q p q n = p
with_fault (Some f) P Q p q n = n f p q

pub unset : (kind : Kind) (j : ℕ) (text : List ℕ) (fault : SetFault) → IsSetFault kind j text fault → ¬ FitsField kind j text
unset kind j text set_faults.NoSuchField h =
    no_field kind j text (ap (λ (o : Option FieldLayout). option_and_then (λ f. cond f.derived None (Some f)) o) h)
unset kind j text set_faults.Derived h = no_field kind j text (by (field_at kind j) h)
  where
    open_if : (b : Bool) (f : FieldLayout) → b ≡ true → cond b None (Some f) ≡ None
    open_if true f e = refl
    open_if false f e = absurd (true≢false (sym e))

    by : (o : Option FieldLayout) → IsSomeAnd o (λ f. f.derived ≡ true)
        → option_and_then (λ f. cond f.derived None (Some f)) o ≡ None
    by None h = absurd h
    by (Some f) h = open_if f.derived f h
unset kind j text set_faults.TooWide h = λ fits. with_fault (carried_at kind j) _ _ h fits (λ f wide k. omega (arith, wide, k.0))
unset kind j text (set_faults.Cell fault) h = λ fits. with_fault (carried_at kind j) _ _ h fits (λ f bad k. bad.1.0 k.1)
