-- A key is that of a name, byte by byte.
use Rattle.std.proofs.Common.{◌≡◌, ℕ, ◌+◌, ◌<◌, ◌≤◌, Bool, true, false, List, [], ◌∷◌, zero, suc, cond, length, get_or, Option}
use Rattle.std.proofs.Common.{Some, None, refl, sym, ap, subst, ◌∙◌, arith, ltb-true}
use Rattle.std.proofs.lemmas.Bool.{ltb-false}
use Rattle.std.specs.Prelude.{nat_lt, option_map, slice_get, unwrap_or}
use Rattle.std.specs.Option.{option_and_then}
use Rattle.std.specs.Str.{bytes_eq}
use Rattle.cwr_lines.specs.Format.Carried.{carried_at}
use Rattle.std.proofs.lemmas.Grind.{same_number_lists}
use Rattle.std.proofs.lemmas.List.{get_or-map}
use Rattle.cwr_fields.specs.declared.kinds.Kind.{Kind}
use Rattle.cwr_fields.specs.declared.layouts.Field.{Field}
use Rattle.cwr_fields.specs.Format.Layouts.{FieldLayout, field_at, field_with_start, layout}
use Rattle.cwr_fields.specs.Steps.Views.{field_view}
use Rattle.cwr_fields.proofs.lemmas.FieldStarts.{field_at-start}
use Rattle.cwr_json.specs.Format.Forms.{key_byte, key_of}
use Rattle.cwr_json.proofs.lemmas.OwnData.{bytes_same, same_bytes}
use Rattle.cwr_write.specs.Steps.Filling.{names_field}

name_length : (name : List ℕ) → length (key_of name) ≡ length name
name_length [] = refl
name_length (b ∷ name) = ap (λ (n : ℕ). suc n) (name_length name)

not_same : (xs ys : List ℕ) → (xs ≡ ys → ⊥) → false ≡ bytes_eq xs ys
not_same xs ys h = by (bytes_eq xs ys) refl
  where
    by : (b : Bool) → bytes_eq xs ys ≡ b → false ≡ b
    by false e = refl
    by true e = absurd (h (bytes_same xs ys e))

-- they differ in one
pub key_differs : (key name : List ℕ) (i b : ℕ) → i < length name → b ≡ key_byte (get_or name i 0) → (get_or key i 0 ≡ b → ⊥)
    → false ≡ bytes_eq key (key_of name)
key_differs key name i b h e differs =
    not_same key (key_of name)
    (λ same. differs (ap (λ (l : List ℕ). get_or l i 0) same ∙ get_or-map key_byte name i 0 0 h ∙ sym e))

-- or in length
pub key_shorter : (key name : List ℕ) → (length key ≡ length name → ⊥) → false ≡ bytes_eq key (key_of name)
key_shorter key name differs = not_same key (key_of name) (λ same. differs (ap length same ∙ name_length name))

pub key_equals : (key name : List ℕ) (i : ℕ) → length key ≡ length name → length name ≤ i
    → ((k : ℕ) → k < i → get_or key k 0 ≡ key_byte (get_or name k 0)) → true ≡ bytes_eq key (key_of name)
key_equals key name i lengths all h =
    let same : key ≡ key_of name =
    same_number_lists key (key_of name) (lengths ∙ sym (name_length name))
    (λ k lt. h k (omega arith) ∙ sym (get_or-map key_byte name k 0 0 (omega arith))) in
    sym (ap (λ (l : List ℕ). bytes_eq key l) (sym same) ∙ same_bytes key)

-- ---- fields

abbrev named_by : List ℕ → Option FieldLayout → Bool
named_by k o = unwrap_or (option_map (λ f. bytes_eq k (key_of f.name)) o) false

pub has_named : (kind : Kind) (j : ℕ) (k : List ℕ) (place : Field) (found : Option Field)
    → option_map field_view found ≡ field_with_start kind j → found ≡ Some place
    → bytes_eq k (key_of place.name.now) ≡ names_field kind j k
has_named kind j k place found h e =
    ap (named_by k) (ap (λ (o : Option Field). option_map (λ (p : ℕ × FieldLayout). p.1) (option_map field_view o)) (sym e)
    ∙ ap (option_map (λ (p : ℕ × FieldLayout). p.1)) h ∙ field_at-start kind j)

pub has_none : (kind : Kind) (j : ℕ) (k : List ℕ) (found : Option Field) → option_map field_view found ≡ field_with_start kind j
    → found ≡ None → false ≡ names_field kind j k
has_none kind j k found h e =
    ap (named_by k) (ap (λ (o : Option Field). option_map (λ (p : ℕ × FieldLayout). p.1) (option_map field_view o)) (sym e)
    ∙ ap (option_map (λ (p : ℕ × FieldLayout). p.1)) h ∙ field_at-start kind j)

-- ---- no field has the key

beyond : (fields : List FieldLayout) (i : ℕ) → length fields ≤ i → slice_get fields i ≡ None
beyond [] i h = refl
beyond (f ∷ fields) zero h = absurd (omega (arith, h))
beyond (f ∷ fields) (suc i) h = beyond fields i (omega (arith, h))

pub none_named : (kind : Kind) (k : List ℕ) (count n : ℕ) → count ≡ length (layout kind) → count ≤ n
    → ((i : ℕ) → i < n → names_field kind (i + 1) k ≡ false) → (j : ℕ) → names_field kind j k ≡ false
none_named kind k count n all over h zero = refl
none_named kind k count n all over h (suc i) = by (nat_lt i n) refl
  where
    suc_is : (m : ℕ) → m + 1 ≡ suc m
    suc_is m = omega arith

    by : (b : Bool) → nat_lt i n ≡ b → names_field kind (suc i) k ≡ false
    by true e = subst (λ (m : ℕ). names_field kind m k ≡ false) (suc_is i) (h i (ltb-true i n e))
    by false e = ap (named_by k) (beyond (layout kind) i (omega (arith, all, over, ltb-false i n e)))

-- a computed field is carried by no value
pub computed_none : (kind : Kind) (j : ℕ) (place : Field) (found : Option Field)
    → option_map field_view found ≡ field_with_start kind j → found ≡ Some place → place.derived ≡ true → carried_at kind j ≡ None
computed_none kind j place found h e d =
    let there : field_at kind j ≡ Some (field_view place).1 =
    sym (field_at-start kind j) ∙ ap (option_map (λ (p : ℕ × FieldLayout). p.1)) (sym h)
    ∙ ap (λ (o : Option Field). option_map (λ (p : ℕ × FieldLayout). p.1) (option_map field_view o)) e in
    ap (λ (o : Option FieldLayout). option_and_then (λ f. cond f.derived None (Some f)) o) there
    ∙ ap (λ (b : Bool). cond b None (Some (field_view place).1)) d

pub computed_derived : (kind : Kind) (j : ℕ) (place : Field) (found : Option Field) (f : FieldLayout)
    → option_map field_view found ≡ field_with_start kind j → found ≡ Some place → field_at kind j ≡ Some f
    → f.derived ≡ place.derived
computed_derived kind j place found f h e at =
    let there : field_at kind j ≡ Some (field_view place).1 =
    sym (field_at-start kind j) ∙ ap (option_map (λ (p : ℕ × FieldLayout). p.1)) (sym h)
    ∙ ap (λ (o : Option Field). option_map (λ (p : ℕ × FieldLayout). p.1) (option_map field_view o)) e in
    let same : (field_view place).1 ≡ f = cc (there, at) in
    ap (λ (x : FieldLayout). x.derived) (sym same)

-- none is there that isn't found
pub never_there : (kind : Kind) (j : ℕ) (found : Option Field) (f : FieldLayout)
    → option_map field_view found ≡ field_with_start kind j → found ≡ None → field_at kind j ≡ Some f → ⊥
never_there kind j found f h e at =
    let none : None ≡ Some f =
    ap (λ (o : Option Field). option_map (λ (p : ℕ × FieldLayout). p.1) (option_map field_view o)) (sym e)
    ∙ ap (option_map (λ (p : ℕ × FieldLayout). p.1)) h ∙ field_at-start kind j ∙ at in
    cc none
