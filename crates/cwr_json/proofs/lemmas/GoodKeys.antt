-- The keys of each kind are distinct, and none begins with an underscore.
use Rattle.std.proofs.Common.{◌≡◌, ℕ, Bool, true, not, ◌&&◌, List, ◌∷◌, map, refl}
use Rattle.std.specs.List.{list_all}
use Rattle.std.proofs.lemmas.Bool.{and_parts}
use Rattle.cwr_fields.specs.declared.kinds.Kind.{Kind}
use Rattle.cwr_fields.specs.declared.kinds.Kind.TheVariants.{Hdr}
use Rattle.cwr_fields.specs.Format.Layouts.{FieldLayout, layout}
use Rattle.cwr_lines.specs.Format.Records.{carried_fields}
use Rattle.cwr_json.specs.Format.Forms.{key_of, kind_key, is_note, is_known, are_distinct}

-- the keys of fields
abbrev pub keys_of : List FieldLayout → List (List ℕ)
keys_of fields = map (λ f. key_of f.name) fields

abbrev pub is_told : FieldLayout → Bool
is_told f = not (is_note (key_of f.name))

abbrev pub is_known_of : Kind → FieldLayout → Bool
is_known_of kind f = is_known kind (key_of f.name)

abbrev is_good_kind : Kind → Bool
is_good_kind kind =
    are_distinct (kind_key ∷ keys_of (carried_fields kind))
    && (list_all is_told (carried_fields kind) && list_all (is_known_of kind) (carried_fields kind))

abbrev are_apart : Kind → Bool
are_apart kind = are_distinct (keys_of (layout kind))

good_kind : (kind : Kind) → is_good_kind kind ≡ true
good_kind Hdr = refl
good_kind this_kind = refl

keys_apart : (kind : Kind) → are_apart kind ≡ true
keys_apart Hdr = refl
keys_apart this_kind = refl

-- what is known of the keys of a kind
pub record HasGoodKeys (kind : Kind) : Type 0 where
  pub distinct : are_distinct (kind_key ∷ keys_of (carried_fields kind)) ≡ true
  pub told : list_all is_told (carried_fields kind) ≡ true
  pub known : list_all (is_known_of kind) (carried_fields kind) ≡ true
  pub apart : are_distinct (keys_of (layout kind)) ≡ true

pub good_keys : (kind : Kind) → HasGoodKeys kind
good_keys kind =
    let all =
    and_parts (are_distinct (kind_key ∷ keys_of (carried_fields kind)))
    (list_all is_told (carried_fields kind) && list_all (is_known_of kind) (carried_fields kind)) (good_kind kind) in
    let others = and_parts (list_all is_told (carried_fields kind)) (list_all (is_known_of kind) (carried_fields kind)) all.1 in
    record { distinct = all.0; told = others.0; known = others.1; apart = keys_apart kind }
