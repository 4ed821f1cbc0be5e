-- What is in lists.
use Rattle.std.proofs.Common.{◌≡◌, ℕ, zero, suc, ◌<◌, List, [], ◌∷◌, ◌++◌, length, refl, sym, ap, subst, arith, inl, inr}
use Rattle.std.specs.Prelude.{◌⊎◌, map, slice_index_or}
use Rattle.std.specs.List.{Contains, flat_map}

abbrev pub IsIn : {A : Type 0} → List A → A → Type 0
IsIn [] z = ⊥
IsIn (x ∷ xs) z = (x ≡ z) ⊎ IsIn xs z

in_at : {A : Type 0} (xs : List A) (z : A) (k : ℕ) → k < length xs → slice_index_or xs k z ≡ z → IsIn xs z
in_at [] z k less e = omega (arith, less)
in_at (x ∷ xs) z zero less e = inl e
in_at (x ∷ xs) z (suc k) less e = inr (in_at xs z k (omega (arith, less)) e)

pub from_contains : {A : Type 0} (xs : List A) (z : A) → Contains xs z → IsIn xs z
from_contains xs z h = in_at xs z h.0 h.1 h.2

pub to_contains : {A : Type 0} (xs : List A) (z : A) → IsIn xs z → Contains xs z
to_contains [] z h = absurd h
to_contains (x ∷ xs) z (inl e) = (0, omega arith, e)
to_contains (x ∷ xs) z (inr h) = let rest = to_contains xs z h in (suc rest.0, omega (arith, rest.1), rest.2)

-- ---- mapped

pub in_map : {A B : Type 0} (f : A → B) (xs : List A) (z : A) → IsIn xs z → IsIn (map f xs) (f z)
in_map f [] z h = h
in_map f (x ∷ xs) z (inl e) = inl (ap f e)
in_map f (x ∷ xs) z (inr h) = inr (in_map f xs z h)

pub record IsMade {A B : Type 0} (f : A → B) (xs : List A) (w : B) : Type 0 where
  pub of : A
  pub there : IsIn xs of
  pub is : f of ≡ w

pub from_map : {A B : Type 0} (f : A → B) (xs : List A) (w : B) → IsIn (map f xs) w → IsMade f xs w
from_map f [] w h = absurd h
from_map f (x ∷ xs) w (inl e) = record { of = x; there = inl refl; is = e }
from_map f (x ∷ xs) w (inr h) =
    let rest = from_map f xs w h in record { of = rest.of; there = inr rest.there; is = rest.is }

-- ---- one after another

pub in_front : {A : Type 0} (xs ys : List A) (z : A) → IsIn xs z → IsIn (xs ++ ys) z
in_front [] ys z h = absurd h
in_front (x ∷ xs) ys z (inl e) = inl e
in_front (x ∷ xs) ys z (inr h) = inr (in_front xs ys z h)

pub in_back : {A : Type 0} (xs ys : List A) (z : A) → IsIn ys z → IsIn (xs ++ ys) z
in_back [] ys z h = h
in_back (x ∷ xs) ys z h = inr (in_back xs ys z h)

pub in_either : {A : Type 0} (xs ys : List A) (z : A) → IsIn (xs ++ ys) z → IsIn xs z ⊎ IsIn ys z
in_either [] ys z h = inr h
in_either (x ∷ xs) ys z (inl e) = inl (inl e)
in_either (x ∷ xs) ys z (inr h) = elim (in_either xs ys z h) [ inl front ↦ inl (inr front) | inr back ↦ inr back ]

-- of lists made of the elements of others: with the same elements these have the same
pub in_flat : {A B : Type 0} (f : A → List B) (xs : List A) (z : B) (x : A) → IsIn xs x → IsIn (f x) z → IsIn (flat_map f xs) z
in_flat f [] z x h there = absurd h
in_flat f (y ∷ ys) z x (inl e) there =
    in_front (f y) (flat_map f ys) z (subst (λ (w : _). IsIn (f w) z) (sym e) there)
in_flat f (y ∷ ys) z x (inr h) there = in_back (f y) (flat_map f ys) z (in_flat f ys z x h there)

pub flat_alike : {A B : Type 0} (f : A → List B) (xs ys : List A) → ((x : A) → IsIn xs x → IsIn ys x) → (z : B)
    → IsIn (flat_map f xs) z → IsIn (flat_map f ys) z
flat_alike f [] ys all z h = absurd h
flat_alike f (x ∷ xs) ys all z h =
    elim (in_either (f x) (flat_map f xs) z h) [
      | inl front ↦ in_flat f ys z x (all x (inl refl)) front
      | inr back ↦ flat_alike f xs ys (λ y there. all y (inr there)) z back
    ]
