-- Parts that are counted one after another.
use Rattle.std.proofs.Common.{◌≡◌, ℕ, zero, suc, ◌+◌, ◌<◌, ◌≤◌, List, [], ◌∷◌, ◌++◌, length, map, take, sym, ap, ◌∙◌, Bor, refl}
use Rattle.cwr_fields.specs.Format.Members.{coded}
use Rattle.cwr_fields.specs.Steps.Members.{listed}
use Rattle.std.proofs.Common.{arith, append-nil, Some, None, slice_get}
use Rattle.std.specs.Prelude.{flat_map}
use Rattle.std.proofs.lemmas.List.{map-append}
use Rattle.std.proofs.lemmas.List.Concat.{flat_map-append}
use Rattle.std.proofs.lemmas.Grind.{fold-append}
use Rattle.cwr_summary.specs.Format.Summaries.{Part}
use Rattle.cwr_summary.specs.Steps.Counted.{added, counted}

-- ---- numbers

-- these parts, and then those
pub counted_both : (old mid new : List ℕ) (xs ys : List Part) → mid ≡ counted old xs → new ≡ counted mid ys
    → new ≡ counted old (xs ++ ys)
counted_both old mid new xs ys first next =
    next ∙ ap (λ (l : List ℕ). counted l ys) first ∙ sym (fold-append added old xs ys)

-- and one more
pub counted_one : (old mid new : List ℕ) (xs : List Part) (p : Part) → mid ≡ counted old xs → new ≡ added mid p
    → new ≡ counted old (xs ++ p ∷ [])
counted_one old mid new xs p first next = counted_both old mid new xs (p ∷ []) first next

-- ---- fronts

-- an element that is there stands within the list
pub found_within : {X : Type 0} (xs : List X) (i : ℕ) (x : X) → Some x ≡ slice_get xs i → i < length xs
found_within [] i x e = absurd (cc e)
found_within (y ∷ xs) zero x e = omega arith
found_within (y ∷ xs) (suc i) x e = omega (arith, found_within xs i x e)

-- and one that isn't doesn't
pub none_within : {X : Type 0} (xs : List X) (i : ℕ) → None ≡ slice_get xs i → length xs ≤ i
none_within [] i e = omega arith
none_within (y ∷ xs) zero e = absurd (cc e)
none_within (y ∷ xs) (suc i) e = omega (arith, none_within xs i e)

next_front : {X : Type 0} (xs : List X) (i : ℕ) (x : X) → Some x ≡ slice_get xs i → take (suc i) xs ≡ take i xs ++ x ∷ []
next_front [] i x e = absurd (cc e)
next_front (y ∷ xs) zero x e = let same : y ≡ x = cc e in ap (λ z. z ∷ []) same
next_front (y ∷ xs) (suc i) x e = ap (λ l. y ∷ l) (next_front xs i x e)

-- the front of a list with one element more
pub front_more : {X : Type 0} (xs : List X) (i : ℕ) (x : X) → Some x ≡ slice_get xs i → take (i + 1) xs ≡ take i xs ++ x ∷ []
front_more xs i x e = let next : i + 1 ≡ suc i = omega arith in ap (λ n. take n xs) next ∙ next_front xs i x e

pub mapped_more : {X A : Type 0} (f : X → A) (xs : List X) (i : ℕ) (x : X) → Some x ≡ slice_get xs i
    → map f (take (i + 1) xs) ≡ map f (take i xs) ++ f x ∷ []
mapped_more f xs i x e = ap (map f) (front_more xs i x e) ∙ map-append f (take i xs) (x ∷ [])

pub listed_more : {X A : Type 0} (f : X → List A) (xs : List X) (i : ℕ) (x : X) → Some x ≡ slice_get xs i
    → flat_map f (take (i + 1) xs) ≡ flat_map f (take i xs) ++ f x
listed_more f xs i x e =
    ap (flat_map f) (front_more xs i x e) ∙ flat_map-append f (take i xs) (x ∷ [])
    ∙ ap (λ l. flat_map f (take i xs) ++ l) (append-nil (f x))

-- what comes of the members of a code, as they stand in its list
flat_over : {X Y A : Type 0} (f : Y → List A) (g : X → Y) (xs : List X) → flat_map f (map g xs) ≡ flat_map (λ x. f (g x)) xs
flat_over f g [] = refl
flat_over f g (x ∷ xs) = ap (λ l. f (g x) ++ l) (flat_over f g xs)

pub of_listed : {C A : Type 0} (f : C → List ℕ → List A) (code : C → List ℕ) (list : List (C × Bor (List ℕ))) (members : List C)
    → map listed list ≡ map (coded code) members → flat_map (λ p. f p.0 p.1.now) list ≡ flat_map (λ member. f member (code member)) members
of_listed {C = C} f code list members e =
    sym (flat_over (λ (q : C × List ℕ). f q.0 q.1) listed list) ∙ ap (flat_map (λ (q : C × List ℕ). f q.0 q.1)) e
    ∙ flat_over (λ (q : C × List ℕ). f q.0 q.1) (coded code) members
