-- Where the copy of an acknowledgement starts, record by record.
use Rattle.std.proofs.Common.{◌≡◌, ℕ, zero, suc, ◌+◌, ◌≤◌, Bool, true, false, cond, List, [], ◌∷◌, length, Some, refl}
use Rattle.std.proofs.Common.{ap, ◌∙◌, arith}
use Rattle.std.specs.Prelude.{slice_get}
use Rattle.std.specs.List.{prefix_len}
use Rattle.std.proofs.lemmas.List.Sums.{prefix_len-le-length}

-- the front of a list is as long as its first element and the rest say
front_by : {X : Type 0} (p : X → Bool) (x : X) (xs : List X) (b : Bool) → p x ≡ b
    → prefix_len p (x ∷ xs) ≡ cond b (1 + prefix_len p xs) 0
front_by p x xs b e = ap (λ (c : Bool). cond c (1 + prefix_len p xs) 0) e

pub front_more : {X : Type 0} (p : X → Bool) (xs : List X) (k : ℕ) (x : X) → k ≤ prefix_len p xs → slice_get xs k ≡ Some x
    → p x ≡ true → k + 1 ≤ prefix_len p xs
front_more p [] k x h e t = absurd (cc e)
front_more p (y ∷ ys) zero x h e t =
    let same : y ≡ x = cc e in omega (arith, front_by p y ys true (ap p same ∙ t))
front_more p (y ∷ ys) (suc k) x h e t = by (p y) refl (λ (g : k ≤ prefix_len p ys). front_more p ys k x g e t)
  where
    by : (b : Bool) → p y ≡ b → (k ≤ prefix_len p ys → k + 1 ≤ prefix_len p ys) → suc k + 1 ≤ prefix_len p (y ∷ ys)
    by true f g = omega (arith, front_by p y ys true f, g (omega (arith, h, front_by p y ys true f)))
    by false f g = absurd (omega (arith, h, front_by p y ys false f))

pub front_ends : {X : Type 0} (p : X → Bool) (xs : List X) (k : ℕ) (x : X) → k ≤ prefix_len p xs → slice_get xs k ≡ Some x
    → p x ≡ false → k ≡ prefix_len p xs
front_ends p [] k x h e t = absurd (cc e)
front_ends p (y ∷ ys) zero x h e t =
    let same : y ≡ x = cc e in omega (arith, front_by p y ys false (ap p same ∙ t))
front_ends p (y ∷ ys) (suc k) x h e t = by (p y) refl (λ (g : k ≤ prefix_len p ys). front_ends p ys k x g e t)
  where
    by : (b : Bool) → p y ≡ b → (k ≤ prefix_len p ys → k ≡ prefix_len p ys) → suc k ≡ prefix_len p (y ∷ ys)
    by true f g = omega (arith, front_by p y ys true f, g (omega (arith, h, front_by p y ys true f)))
    by false f g = absurd (omega (arith, h, front_by p y ys false f))

pub front_whole : {X : Type 0} (p : X → Bool) (xs : List X) (k : ℕ) → k ≤ prefix_len p xs → length xs ≤ k → k ≡ prefix_len p xs
front_whole p xs k h e = omega (arith, h, e, prefix_len-le-length p xs)
