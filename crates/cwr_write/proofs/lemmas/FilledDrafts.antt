-- A draft that members fill has their cells, with each member more.
use Rattle.std.proofs.Common.{◌≡◌, ℕ, zero, suc, ◌-◌, ◌<◌, Bool, true, false, not, cond, ◌&&◌, List, [], ◌∷◌, ◌++◌, length, map}
use Rattle.std.proofs.Common.{take, get_or, Option, Some, None, refl, sym, ap, ap₂, subst, ◌∙◌, arith, true≢false, replicate}
use Rattle.std.proofs.Common.{get_or-set_same, get_or-set_other}
use Rattle.std.proofs.Math.ListN.{set}
use Rattle.std.specs.Prelude.{◌≤◌, ◌||◌, ◌==◌, option_map, unwrap_or, slice_get, slice_set, IsSomeAnd, Result, Ok, Err, IfOk}
use Rattle.std.specs.Prelude.{OnErr}
use Rattle.std.specs.List.{AllZip, list_all, list_any}
use Rattle.std.specs.Str.{bytes_eq}
use Rattle.std.proofs.lemmas.List.Folds.{list_any-append}
use Rattle.std.proofs.lemmas.Bool.{and_parts, eqb-false, eqb-true, not-true, or_parts, or_from, or_left, or_right}
use Rattle.json.specs.Json.{Json, string, Members, no_members, member}
use Rattle.json.specs.Strict.{keys}
use Rattle.cwr_fields.specs.Format.Bytes.{filled}
use Rattle.cwr_fields.specs.Format.Cells.{Allows}
use Rattle.cwr_fields.specs.declared.kinds.Kind.{Kind}
use Rattle.cwr_fields.specs.Format.Kinds.{letters}
use Rattle.cwr_fields.specs.Format.Layouts.{FieldLayout, layout, field_at, record_type}
use Rattle.cwr_lines.specs.Format.Records.{RecordValue, IsRecord, blank_cell, blank_record, carried_fields}
use Rattle.cwr_lines.specs.Format.Carried.{Sets, carried_at, carried_before, set_cell}
use Rattle.cwr_lines.proofs.lemmas.CarriedCells.{carried_count, carried_field-at, open_some}
use Rattle.cwr_fields.proofs.lemmas.AllKinds.{letters-injective}
use Rattle.cwr_json.specs.declared.encodings.Encoding.{Encoding}
use Rattle.cwr_json.specs.Format.Forms.{IsCellFrom, IsDataOf, are_distinct, first_of, is_known, key_of, kind_key}
use Rattle.cwr_json.proofs.lemmas.GoodKeys.{keys_of, is_known_of, good_keys}
use Rattle.cwr_json.proofs.lemmas.OneItem.{one_cells}
use Rattle.cwr_json.proofs.lemmas.OwnData.{apart, bytes_same, same_bytes}
use Rattle.cwr_write.specs.Steps.Filling.{IsFilled, IsTextOf, names_field, with_last}

-- ---- one member more

pub keys-last : (ms : Members) (k : List ℕ) (j : Json) → keys (with_last ms k j) ≡ keys ms ++ k ∷ []
unfolding with_last
keys-last no_members k j = refl
keys-last (member l i ms) k j = ap (λ (ks : List (List ℕ)). l ∷ ks) (keys-last ms k j)

all-last : (p : List ℕ → Bool) (ks : List (List ℕ)) (k : List ℕ) → list_all p ks ≡ true → p k ≡ true
    → list_all p (ks ++ k ∷ []) ≡ true
all-last p [] k h e = ap (λ (b : Bool). b && true) e
all-last p (l ∷ ks) k h e =
    let parts = and_parts (p l) (list_all p ks) h in
    ap₂ (λ (x y : Bool). x && y) parts.0 (all-last p ks k parts.1 e)

none-last : (p : List ℕ → Bool) (ks : List (List ℕ)) (k : List ℕ) → list_any p ks ≡ false → p k ≡ false
    → list_any p (ks ++ k ∷ []) ≡ false
none-last p [] k h e = or_from (p k) false e refl
none-last p (l ∷ ks) k h e =
    let parts = or_parts (p l) (list_any p ks) h in
    or_from (p l) (list_any p (ks ++ k ∷ [])) parts.0 (none-last p ks k parts.1 e)

pub any-last : (p : List ℕ → Bool) (ks : List (List ℕ)) (k : List ℕ) → p k ≡ true → list_any p (ks ++ k ∷ []) ≡ true
any-last p [] k e = or_left (p k) false e
any-last p (l ∷ ks) k e = or_right (p l) (list_any p (ks ++ k ∷ [])) (any-last p ks k e)

either_way : (p : List ℕ → Bool) (ks : List (List ℕ)) (k : List ℕ) → list_any p ks ≡ true → list_any p (ks ++ k ∷ []) ≡ true
either_way p ks k h = list_any-append p ks (k ∷ []) ∙ or_left (list_any p ks) (list_any p (k ∷ [])) h

-- another key is among them as before
other-last : (p : List ℕ → Bool) (ks : List (List ℕ)) (k : List ℕ) → p k ≡ false → list_any p (ks ++ k ∷ []) ≡ list_any p ks
other-last p [] k e = or_from (p k) false e refl
other-last p (l ∷ ks) k e = ap (λ (b : Bool). p l || b) (other-last p ks k e)

pub flipped : (k l : List ℕ) → bytes_eq k l ≡ false → bytes_eq l k ≡ false
flipped k l h = by (bytes_eq l k) refl
  where
    by : (b : Bool) → bytes_eq l k ≡ b → b ≡ false
    by false e = refl
    by true e = absurd (true≢false (sym (same_bytes l) ∙ ap (λ (x : List ℕ). bytes_eq x l) (bytes_same l k e) ∙ h))

distinct-last : (ks : List (List ℕ)) (k : List ℕ) → are_distinct ks ≡ true → list_any (bytes_eq k) ks ≡ false
    → are_distinct (ks ++ k ∷ []) ≡ true
distinct-last [] k d h = refl
distinct-last (l ∷ ks) k d h =
    let parts = and_parts (not (list_any (bytes_eq l) ks)) (are_distinct ks) d in
    let away = or_parts (bytes_eq k l) (list_any (bytes_eq k) ks) h in
    let none : list_any (bytes_eq l) (ks ++ k ∷ []) ≡ false =
    none-last (bytes_eq l) ks k (not-true _ parts.0) (flipped k l away.0) in
    ap₂ (λ (x y : Bool). not x && y) none (distinct-last ks k parts.1 away.1)

first-other : (k : List ℕ) (ms : Members) (l : List ℕ) (j : Json) → bytes_eq k l ≡ false
    → first_of k (with_last ms l j) ≡ first_of k ms
unfolding first_of with_last
first-other k no_members l j e = ap (λ (b : Bool). cond b (Some j) None) e
first-other k (member m i ms) l j e = ap (λ (o : Option Json). cond (bytes_eq k m) (Some i) o) (first-other k ms l j e)

pub first-last : (k : List ℕ) (ms : Members) (j : Json) → list_any (bytes_eq k) (keys ms) ≡ false
    → first_of k (with_last ms k j) ≡ Some j
unfolding first_of with_last
first-last k no_members j h = ap (λ (b : Bool). cond b (Some j) None) (same_bytes k)
first-last k (member m i ms) j h =
    let parts = or_parts (bytes_eq k m) (list_any (bytes_eq k) (keys ms)) h in
    ap (λ (b : Bool). cond b (Some i) (first_of k (with_last ms k j))) parts.0 ∙ first-last k ms j parts.1

-- ---- fields and their keys

-- a field of that number, where it has the key
pub named : (kind : Kind) (j : ℕ) (k : List ℕ) → names_field kind j k ≡ true
    → (f : FieldLayout) × (field_at kind j ≡ Some f) × (k ≡ key_of f.name)
named kind j k h = by (field_at kind j) refl
  where
    by : (o : Option FieldLayout) → field_at kind j ≡ o → (f : FieldLayout) × (field_at kind j ≡ Some f) × (k ≡ key_of f.name)
    by None e =
        absurd
        (true≢false (sym h ∙ ap (λ (o : Option FieldLayout). unwrap_or (option_map (λ f. bytes_eq k (key_of f.name)) o) false) e))
    by (Some f) e = (
      f,
      e,
      bytes_same k (key_of f.name)
          (sym (ap (λ (o : Option FieldLayout). unwrap_or (option_map (λ f. bytes_eq k (key_of f.name)) o) false) e) ∙ h),
    )

passes : (p : FieldLayout → Bool) (fields : List FieldLayout) (i : ℕ) (f : FieldLayout) → list_all p fields ≡ true
    → slice_get fields i ≡ Some f → p f ≡ true
passes p [] i f h e = absurd (cc e)
passes p (g ∷ fields) zero f h e = let same : g ≡ f = cc e in ap p (sym same) ∙ (and_parts (p g) (list_all p fields) h).0
passes p (g ∷ fields) (suc i) f h e = passes p fields i f (and_parts (p g) (list_all p fields) h).1 e

pub among : (fields : List FieldLayout) (i : ℕ) (f : FieldLayout) → slice_get fields i ≡ Some f
    → list_any (bytes_eq (key_of f.name)) (keys_of fields) ≡ true
among [] i f e = absurd (cc e)
among (g ∷ fields) zero f e =
    let same : g ≡ f = cc e in
    or_left (bytes_eq (key_of f.name) (key_of g.name)) _
    (ap (λ (x : FieldLayout). bytes_eq (key_of f.name) (key_of x.name)) same ∙ same_bytes (key_of f.name))
among (g ∷ fields) (suc i) f e = or_right (bytes_eq (key_of f.name) (key_of g.name)) _ (among fields i f e)

-- where a carried field stands among the carried fields
pub carried_place : (kind : Kind) (j : ℕ) (f : FieldLayout) → field_at kind j ≡ Some f → f.derived ≡ false
    → slice_get (carried_fields kind) (carried_before kind j) ≡ Some f
carried_place kind zero f e d = absurd (cc e)
carried_place kind (suc i) f e d =
    let before : suc i - 1 ≡ i = omega arith in
    ap (λ (n : ℕ). slice_get (carried_fields kind) (carried_count (take n (layout kind)))) before
    ∙ carried_field-at (layout kind) i f e d

-- ---- cells

abbrev AreFrom : Encoding → Members → List FieldLayout → List (List ℕ) → Type 0
AreFrom enc ms fields cells = AllZip (λ f cell. IsCellFrom enc f (first_of (key_of f.name) ms) cell) fields cells

blank_cells : (enc : Encoding) (fields : List FieldLayout)
    → AreFrom enc no_members fields (map (λ f. blank_cell f.ty f.width) fields)
unfolding first_of
blank_cells enc [] = tt
blank_cells enc (f ∷ fields) = (refl, blank_cells enc fields)

-- a member that none of the fields has changes nothing
same_cells : (enc : Encoding) (fields : List FieldLayout) (cells : List (List ℕ)) (ms : Members) (k : List ℕ) (j : Json)
    → list_any (bytes_eq k) (keys_of fields) ≡ false → AreFrom enc ms fields cells → AreFrom enc (with_last ms k j) fields cells
same_cells enc [] [] ms k j away h = tt
same_cells enc [] (c ∷ cells) ms k j away h = absurd h
same_cells enc (f ∷ fields) [] ms k j away h = absurd h
same_cells enc (f ∷ fields) (c ∷ cells) ms k j away h =
    let parts = or_parts (bytes_eq k (key_of f.name)) (list_any (bytes_eq k) (keys_of fields)) away in (
      subst (λ (o : Option Json). IsCellFrom enc f o c)
          (sym (first-other (key_of f.name) ms k j (flipped k (key_of f.name) parts.0))) h.0,
      same_cells enc fields cells ms k j
          parts.1 h.1,
    )

-- the member of field f sets its cell
set_cells : (enc : Encoding) (fields : List FieldLayout) (cells : List (List ℕ)) (i : ℕ) (f : FieldLayout) (ms : Members)
    (j : Json) (cell : List ℕ) → are_distinct (keys_of fields) ≡ true → slice_get fields i ≡ Some f
    → list_any (bytes_eq (key_of f.name)) (keys ms) ≡ false → IsCellFrom enc f (Some j) cell → AreFrom enc ms fields cells
    → AreFrom enc (with_last ms (key_of f.name) j) fields (slice_set cells i cell)
set_cells enc [] cells i f ms j cell d e none from h = absurd (cc e)
set_cells enc (g ∷ fields) [] i f ms j cell d e none from h = absurd h
set_cells enc (g ∷ fields) (c ∷ cells) zero f ms j cell d e none from h =
    let same : g ≡ f = cc e in
    let parts = and_parts (not (list_any (bytes_eq (key_of g.name)) (keys_of fields))) (are_distinct (keys_of fields)) d in
    let away : list_any (bytes_eq (key_of f.name)) (keys_of fields) ≡ false =
    ap (λ (x : FieldLayout). list_any (bytes_eq (key_of x.name)) (keys_of fields)) (sym same) ∙ not-true _ parts.0 in
    let here : IsCellFrom enc f (first_of (key_of f.name) (with_last ms (key_of f.name) j)) cell =
    subst (λ (o : Option Json). IsCellFrom enc f o cell) (sym (first-last (key_of f.name) ms j none)) from in (
      subst (λ (x : FieldLayout). IsCellFrom enc x (first_of (key_of x.name) (with_last ms (key_of f.name) j)) cell) (sym same)
          here,
      same_cells enc fields cells ms (key_of f.name) j away h.1,
    )
set_cells enc (g ∷ fields) (c ∷ cells) (suc i) f ms j cell d e none from h =
    let parts = and_parts (not (list_any (bytes_eq (key_of g.name)) (keys_of fields))) (are_distinct (keys_of fields)) d in
    let other : bytes_eq (key_of f.name) (key_of g.name) ≡ false =
    apart (key_of f.name) (key_of g.name) (keys_of fields) (among fields i f e) (not-true _ parts.0) in (
      subst (λ (o : Option Json). IsCellFrom enc g o c)
          (sym (first-other (key_of g.name) ms (key_of f.name) j (flipped (key_of f.name) (key_of g.name) other))) h.0,
      set_cells enc fields cells i f ms j cell parts.1 e none from h.1,
    )

-- ---- drafts

-- none of them is marked
unmarked_in : (n j : ℕ) → get_or (replicate n false) j false ≡ false
unmarked_in zero j = refl
unmarked_in (suc n) zero = refl
unmarked_in (suc n) (suc j) = unmarked_in n j

pub filled_none : (enc : Encoding) (kind : Kind) (draft : RecordValue) (seen : List Bool) (n : ℕ) → draft ≡ blank_record kind
    → seen ≡ replicate n false → IsFilled enc kind no_members draft seen
filled_none enc kind draft seen n e empty =
    subst (λ (d : RecordValue). IsFilled enc kind no_members d seen) (sym e) (record {
      kind_is = refl;
      known = refl;
      once = refl;
      cells = blank_cells enc (carried_fields kind);
      marks = λ j k h unmarked. refl;
      marked = λ j k h mark. absurd (true≢false (sym mark ∙ ap (λ (l : List Bool). get_or l j false) empty ∙ unmarked_in n j));
    })

-- a field of another number has another key
one_place : (fields : List FieldLayout) (a b : ℕ) (f g : FieldLayout) → are_distinct (keys_of fields) ≡ true
    → slice_get fields a ≡ Some f → slice_get fields b ≡ Some g → key_of f.name ≡ key_of g.name → a ≡ b
one_place [] a b f g d e m same = absurd (cc e)
one_place (h ∷ fields) zero zero f g d e m same = refl
one_place (h ∷ fields) zero (suc b) f g d e m same =
    let first : h ≡ f = cc e in
    let parts = and_parts (not (list_any (bytes_eq (key_of h.name)) (keys_of fields))) (are_distinct (keys_of fields)) d in
    let keys_are : key_of g.name ≡ key_of h.name = sym same ∙ ap (λ (x : FieldLayout). key_of x.name) (sym first) in
    absurd (true≢false
    (sym (among fields b g m) ∙ ap (λ (x : List ℕ). list_any (bytes_eq x) (keys_of fields)) keys_are ∙ not-true _ parts.0))
one_place (h ∷ fields) (suc a) zero f g d e m same =
    let first : h ≡ g = cc m in
    let parts = and_parts (not (list_any (bytes_eq (key_of h.name)) (keys_of fields))) (are_distinct (keys_of fields)) d in
    let keys_are : key_of f.name ≡ key_of h.name = same ∙ ap (λ (x : FieldLayout). key_of x.name) (sym first) in
    absurd (true≢false
    (sym (among fields a f e) ∙ ap (λ (x : List ℕ). list_any (bytes_eq x) (keys_of fields)) keys_are ∙ not-true _ parts.0))
one_place (h ∷ fields) (suc a) (suc b) f g d e m same =
    ap suc (one_place fields a b f g
    (and_parts (not (list_any (bytes_eq (key_of h.name)) (keys_of fields))) (are_distinct (keys_of fields)) d).1 e m same)

pub one_number : (kind : Kind) (i j : ℕ) (f g : FieldLayout) → field_at kind i ≡ Some f → field_at kind j ≡ Some g
    → key_of f.name ≡ key_of g.name → i ≡ j
one_number kind zero j f g e m same = absurd (cc e)
one_number kind (suc i) zero f g e m same = absurd (cc m)
one_number kind (suc i) (suc j) f g e m same = ap suc (one_place (layout kind) i j f g (good_keys kind).apart e m same)

abbrev Marks : Kind → Members → List Bool → Type 0
Marks kind ms seen =
    (j : ℕ) (k : List ℕ) → names_field kind j k ≡ true → get_or seen j false ≡ false → list_any (bytes_eq k) (keys ms) ≡ false

marks_more : (kind : Kind) (ms : Members) (seen : List Bool) (j : ℕ) (f : FieldLayout) (v : Json) → field_at kind j ≡ Some f
    → j < length seen → Marks kind ms seen → Marks kind (with_last ms (key_of f.name) v) (set seen j true)
marks_more kind ms seen j f v at lt marks i l m unmarked =
    let other : i ≡ j → ⊥ =
    λ e. true≢false
    (sym (get_or-set_same seen j true false lt) ∙ ap (λ (n : ℕ). get_or (set seen j true) n false) (sym e) ∙ unmarked) in
    let before : get_or seen i false ≡ false = sym (get_or-set_other seen j i true false other) ∙ unmarked in
    let there = named kind i l m in
    let differs : bytes_eq l (key_of f.name) ≡ false = by (bytes_eq l (key_of f.name)) refl other there in
    ap (list_any (bytes_eq l)) (keys-last ms (key_of f.name) v)
    ∙ none-last (bytes_eq l) (keys ms) (key_of f.name) (marks i l m before) differs
  where
    by : (b : Bool) → bytes_eq l (key_of f.name) ≡ b → (i ≡ j → ⊥)
        → ((g : FieldLayout) × (field_at kind i ≡ Some g) × (l ≡ key_of g.name)) → b ≡ false
    by false e other there = refl
    by true e other there =
        absurd (other (one_number kind i j there.0 f there.1 at (sym there.2 ∙ bytes_same l (key_of f.name) e)))

abbrev Marked : Kind → Members → List Bool → Type 0
Marked kind ms seen =
    (j : ℕ) (k : List ℕ) → names_field kind j k ≡ true → get_or seen j false ≡ true → list_any (bytes_eq k) (keys ms) ≡ true

marked_more : (kind : Kind) (ms : Members) (seen : List Bool) (j : ℕ) (f : FieldLayout) (v : Json) → field_at kind j ≡ Some f
    → j < length seen → Marked kind ms seen → Marked kind (with_last ms (key_of f.name) v) (set seen j true)
marked_more kind ms seen j f v at lt marked i l m mark =
    ap (list_any (bytes_eq l)) (keys-last ms (key_of f.name) v) ∙ by (i == j) refl
  where
    by : (b : Bool) → (i == j) ≡ b → list_any (bytes_eq l) (keys ms ++ key_of f.name ∷ []) ≡ true
    by true e =
        let there = named kind i l m in
        let here : i ≡ j = eqb-true i j e in
        let same : there.0 ≡ f = cc (there.1, ap (field_at kind) here, at) in
        let key_is : l ≡ key_of f.name = there.2 ∙ ap (λ (x : FieldLayout). key_of x.name) same in
        any-last (bytes_eq l) (keys ms) (key_of f.name)
        (ap (λ (x : List ℕ). bytes_eq x (key_of f.name)) key_is ∙ same_bytes (key_of f.name))
    by false e =
        either_way (bytes_eq l) (keys ms) (key_of f.name)
        (marked i l m (sym (get_or-set_other seen j i true false (eqb-false i j e)) ∙ mark))

-- the key of the record type changes no cell
pub filled_type : (enc : Encoding) (kind : Kind) (ms : Members) (draft : RecordValue) (seen : List Bool) (k : List ℕ) (v : Json)
    → 1 < length seen → names_field kind 1 k ≡ true → get_or seen 1 false ≡ false → IsFilled enc kind ms draft seen
    → IsFilled enc kind (with_last ms k v) draft (set seen 1 true)
filled_type enc kind ms draft seen k v lt names unmarked h =
    let there = named kind 1 k names in
    let type_is : record_type ≡ there.0 = cc there.1 in
    let key_is : k ≡ kind_key = there.2 ∙ ap (λ (f : FieldLayout). key_of f.name) (sym type_is) in
    let none = h.marks 1 k names unmarked in
    let parts =
    and_parts (not (list_any (bytes_eq kind_key) (keys_of (carried_fields kind))))
    (are_distinct (keys_of (carried_fields kind))) (good_keys kind).distinct in
    let away : list_any (bytes_eq k) (keys_of (carried_fields kind)) ≡ false =
    ap (λ (x : List ℕ). list_any (bytes_eq x) (keys_of (carried_fields kind))) key_is ∙ not-true _ parts.0 in
    let known : is_known kind k ≡ true =
    or_left (bytes_eq k kind_key) _ (ap (λ (x : List ℕ). bytes_eq x kind_key) key_is ∙ same_bytes kind_key) in
    record {
      kind_is = h.kind_is;
      known = ap (list_all (is_known kind)) (keys-last ms k v) ∙ all-last (is_known kind) (keys ms) k h.known known;
      once = ap are_distinct (keys-last ms k v) ∙ distinct-last (keys ms) k h.once none;
      cells = same_cells enc (carried_fields kind) draft.cells ms k v away h.cells;
      marks =
          subst (λ (x : List ℕ). Marks kind (with_last ms x v) (set seen 1 true)) (sym there.2)
          (marks_more kind ms seen 1 there.0 v there.1 lt h.marks);
      marked =
          subst (λ (x : List ℕ). Marked kind (with_last ms x v) (set seen 1 true)) (sym there.2)
          (marked_more kind ms seen 1 there.0 v there.1 lt h.marked);
    }

-- a cell that is set is that of its member
pub filled_set : (enc : Encoding) (kind : Kind) (ms : Members) (draft new : RecordValue) (seen : List Bool) (j : ℕ)
    (k text : List ℕ) → j < length seen → names_field kind j k ≡ true → get_or seen j false ≡ false → IsFilled enc kind ms draft
    seen
    → (v : Json) → IsTextOf enc v text → Sets j text draft new → IsFilled enc kind (with_last ms k v) new (set seen j true)
filled_set enc kind ms draft new seen j k text lt names unmarked h v is sets = by (carried_at draft.kind j) refl sets
  where
    there : (f : FieldLayout) × (field_at kind j ≡ Some f) × (k ≡ key_of f.name)
    there = named kind j k names

    none : list_any (bytes_eq k) (keys ms) ≡ false
    none = h.marks j k names unmarked

    set_at : (f : FieldLayout) → carried_at kind j ≡ Some f
        → (length text ≤ f.width) × Allows f.ty (filled f.width text) × (new ≡ set_cell j (filled f.width text) draft)
        → IsFilled enc kind (with_last ms k v) new (set seen j true)
    set_at f at s =
        let opened = open_some (field_at kind j) f at in
        let same : f ≡ there.0 = cc (opened.0, there.1) in
        let key_is : k ≡ key_of f.name = there.2 ∙ ap (λ (x : FieldLayout). key_of x.name) (sym same) in
        let place : slice_get (carried_fields kind) (carried_before kind j) ≡ Some f = carried_place kind j f opened.0 opened.1 in
        let none_of : list_any (bytes_eq (key_of f.name)) (keys ms) ≡ false =
        ap (λ (x : List ℕ). list_any (bytes_eq x) (keys ms)) (sym key_is) ∙ none in
        let parts =
        and_parts (not (list_any (bytes_eq kind_key) (keys_of (carried_fields kind))))
        (are_distinct (keys_of (carried_fields kind))) (good_keys kind).distinct in
        let known : is_known kind (key_of f.name) ≡ true =
        passes (is_known_of kind) (carried_fields kind) (carried_before kind j) f (good_keys kind).known place in
        let from : IsCellFrom enc f (Some v) (filled f.width text) =
        subst (λ (j : Json). IsCellFrom enc f (Some j) (filled f.width text)) (sym is.1) (text, is.2, s.0, refl) in
        let cells_are : new.cells ≡ slice_set draft.cells (carried_before kind j) (filled f.width text) =
        ap (λ (r : RecordValue). r.cells) s.2
        ∙ ap (λ (x : Kind). slice_set draft.cells (carried_before x j) (filled f.width text)) h.kind_is in
        let ms_f : Members = with_last ms (key_of f.name) v in
        let filled_f : IsFilled enc kind ms_f new (set seen j true) = record {
          kind_is = ap (λ (r : RecordValue). r.kind) s.2 ∙ h.kind_is;
          known =
              ap (list_all (is_known kind)) (keys-last ms (key_of f.name) v)
              ∙ all-last (is_known kind) (keys ms) (key_of f.name) h.known known;
          once = ap are_distinct (keys-last ms (key_of f.name) v) ∙ distinct-last (keys ms) (key_of f.name) h.once none_of;
          cells =
              subst (AreFrom enc ms_f (carried_fields kind)) (sym cells_are) (set_cells enc (carried_fields kind) draft.cells
              (carried_before kind j) f ms v (filled f.width text) parts.1 place none_of from h.cells);
          marks = marks_more kind ms seen j f v opened.0 lt h.marks;
          marked = marked_more kind ms seen j f v opened.0 lt h.marked;
        } in
        subst (λ (x : List ℕ). IsFilled enc kind (with_last ms x v) new (set seen j true)) (sym key_is) filled_f

    by : (o : Option FieldLayout) → carried_at draft.kind j ≡ o → IsSomeAnd o
        (λ f. (length text ≤ f.width) × Allows f.ty (filled f.width text) × (new ≡ set_cell j (filled f.width text) draft))
        → IsFilled enc kind (with_last ms k v) new (set seen j true)
    by None e s = absurd s
    by (Some f) e s = set_at f (ap (λ (x : Kind). carried_at x j) (sym h.kind_is) ∙ e) s

-- ---- the whole

pub filled_data : (enc : Encoding) (kind : Kind) (ms : Members) (draft : RecordValue) (seen : List Bool)
    → first_of kind_key ms ≡ Some (string (letters kind)) → IsFilled enc kind ms draft seen → IsRecord draft
    → IsDataOf enc ms draft
filled_data enc kind ms draft seen first h fits = record {
  kind = first ∙ ap (λ (x : Kind). Some (string (letters x))) (sym h.kind_is);
  known = ap (λ (x : Kind). list_all (is_known x) (keys ms)) h.kind_is ∙ h.known;
  once = h.once;
  cells = subst (λ (x : Kind). AreFrom enc ms (carried_fields x) draft.cells) (sym h.kind_is) h.cells;
  fits = fits;
}

pub data_done : {E : Type 0} (enc : Encoding) (kind : Kind) (ms : Members) (draft : RecordValue) (seen : List Bool)
    (answer : Result RecordValue E) → first_of kind_key ms ≡ Some (string (letters kind)) → IsFilled enc kind ms draft seen
    → IfOk answer (λ r. (r ≡ draft) × IsRecord draft) → IfOk answer (λ r. IsDataOf enc ms r)
data_done {E = E} enc kind ms draft seen (Ok r) first h p =
    subst (λ (x : RecordValue). IsDataOf enc ms x) (sym p.0) (filled_data enc kind ms draft seen first h p.1)
data_done {E = E} enc kind ms draft seen (Err e) first h p = tt

-- ---- where no record has the data

letters_are : (enc : Encoding) (ms : Members) (kind : Kind) (r : RecordValue)
    → first_of kind_key ms ≡ Some (string (letters kind)) → IsDataOf enc ms r → r.kind ≡ kind
letters_are enc ms kind r first h =
    let named : Some (string (letters r.kind)) ≡ Some (string (letters kind)) = sym h.kind ∙ first in
    let same : letters r.kind ≡ letters kind = cc named in
    letters-injective r.kind kind same

-- the kind that is named is the record's
pub kind_named : (enc : Encoding) (ms : Members) (kind : Kind) → first_of kind_key ms ≡ Some (string (letters kind))
    → ((r : RecordValue) → r.kind ≡ kind → ¬ IsDataOf enc ms r) → (r : RecordValue) → ¬ IsDataOf enc ms r
kind_named enc ms kind first none r h = none r (letters_are enc ms kind r first h) h

-- a draft whose cells don't fit is that of no record
pub draft_unfit : (enc : Encoding) (kind : Kind) (ms : Members) (draft : RecordValue) (seen : List Bool)
    → first_of kind_key ms ≡ Some (string (letters kind)) → IsFilled enc kind ms draft seen → ¬ IsRecord draft → (r : RecordValue)
    → ¬ IsDataOf enc ms r
draft_unfit enc kind ms draft seen first h unfit r d =
    let kinds : r.kind ≡ kind = letters_are enc ms kind r first d in
    let theirs : AreFrom enc ms (carried_fields kind) r.cells =
    subst (λ (k : Kind). AreFrom enc ms (carried_fields k) r.cells) kinds d.cells in
    let cells : r.cells ≡ draft.cells = one_cells enc ms (carried_fields kind) r.cells draft.cells theirs h.cells in
    let whole : Kind → List (List ℕ) → RecordValue = λ k cs. record { kind = k; cells = cs } in
    let same : r ≡ draft = ap₂ whole (kinds ∙ sym h.kind_is) cells in
    unfit (subst IsRecord same d.fits)

pub data_undone : {E : Type 0} (enc : Encoding) (kind : Kind) (ms : Members) (draft : RecordValue) (seen : List Bool)
    (answer : Result RecordValue E) → first_of kind_key ms ≡ Some (string (letters kind)) → IsFilled enc kind ms draft seen
    → OnErr answer (¬ IsRecord draft) → OnErr answer ((r : RecordValue) → ¬ IsDataOf enc ms r)
data_undone enc kind ms draft seen (Ok r) first h p = tt
data_undone enc kind ms draft seen (Err e) first h p = draft_unfit enc kind ms draft seen first h p
