-- Of two texts that differ just one stands before the other as bytes, and it goes on.
use Rattle.std.proofs.Common.{◌≡◌, ℕ, ◌<◌, Bool, true, false, cond, List, [], ◌∷◌, refl, sym, ap, ap₂, ◌∙◌, arith, inl, inr}
use Rattle.std.specs.Prelude.{◌⊎◌, ◌==◌, nat_lt}
use Rattle.std.proofs.lemmas.Bool.{eq-eqb, eqb-false, eqb-true, lt-ltb, ltb-false, ltb-true, ne_eqb}
use Rattle.cwr_state_rows.specs.Format.StateRows.{bytes_before}

-- by the first bytes
abbrev IsFirst : ℕ → ℕ → List ℕ → List ℕ → Type 0
IsFirst x y xs ys = (x < y) ⊎ ((x ≡ y) × (bytes_before xs ys ≡ true))

first_by : (x y : ℕ) (xs ys : List ℕ) (e : Bool) → (x == y) ≡ e → cond e (bytes_before xs ys) (nat_lt x y) ≡ true
    → IsFirst x y xs ys
first_by x y xs ys true e h = inr (eqb-true x y e, h)
first_by x y xs ys false e h = inl (ltb-true x y h)

first : (x y : ℕ) (xs ys : List ℕ) → bytes_before (x ∷ xs) (y ∷ ys) ≡ true → IsFirst x y xs ys
first x y xs ys h = first_by x y xs ys (x == y) refl h

from_first : (x y : ℕ) (xs ys : List ℕ) → IsFirst x y xs ys → bytes_before (x ∷ xs) (y ∷ ys) ≡ true
from_first x y xs ys (inl h) =
    ap (λ (e : Bool). cond e (bytes_before xs ys) (nat_lt x y)) (ne_eqb x y (λ e. omega (arith, e, h))) ∙ lt-ltb x y h
from_first x y xs ys (inr h) = ap (λ (e : Bool). cond e (bytes_before xs ys) (nat_lt x y)) (eq-eqb x y h.0) ∙ h.1

apart : (x y : ℕ) (xs ys : List ℕ) → (bytes_before xs ys ≡ true → bytes_before ys xs ≡ true → ⊥) → IsFirst x y xs ys
    → IsFirst y x ys xs → ⊥
apart x y xs ys rest (inl h) (inl g) = omega (arith, h, g)
apart x y xs ys rest (inl h) (inr g) = omega (arith, h, g.0)
apart x y xs ys rest (inr h) (inl g) = omega (arith, h.0, g)
apart x y xs ys rest (inr h) (inr g) = rest h.1 g.1

-- not both stand before the other
pub not_both : (xs ys : List ℕ) → bytes_before xs ys ≡ true → bytes_before ys xs ≡ true → ⊥
not_both [] [] h g = cc h
not_both (x ∷ xs) [] h g = cc h
not_both [] (y ∷ ys) h g = cc g
not_both (x ∷ xs) (y ∷ ys) h g = apart x y xs ys (not_both xs ys) (first x y xs ys h) (first y x ys xs g)

first_on : (x y z : ℕ) (xs ys zs : List ℕ)
    → (bytes_before xs ys ≡ true → bytes_before ys zs ≡ true → bytes_before xs zs ≡ true) → IsFirst x y xs ys → IsFirst y z ys zs
    → IsFirst x z xs zs
first_on x y z xs ys zs rest (inl h) (inl g) = inl (omega (arith, h, g))
first_on x y z xs ys zs rest (inl h) (inr g) = inl (omega (arith, h, g.0))
first_on x y z xs ys zs rest (inr h) (inl g) = inl (omega (arith, h.0, g))
first_on x y z xs ys zs rest (inr h) (inr g) = inr (omega (arith, h.0, g.0), rest h.1 g.1)

-- what stands before one stands before those after it
pub before_on : (xs ys zs : List ℕ) → bytes_before xs ys ≡ true → bytes_before ys zs ≡ true → bytes_before xs zs ≡ true
before_on [] [] zs h g = absurd (cc h)
before_on (x ∷ xs) [] zs h g = absurd (cc h)
before_on [] (y ∷ ys) [] h g = absurd (cc g)
before_on [] (y ∷ ys) (z ∷ zs) h g = refl
before_on (x ∷ xs) (y ∷ ys) [] h g = absurd (cc g)
before_on (x ∷ xs) (y ∷ ys) (z ∷ zs) h g =
    from_first x z xs zs (first_on x y z xs ys zs (before_on xs ys zs) (first x y xs ys h) (first y z ys zs g))

same_by : (x y : ℕ) (xs ys : List ℕ) (e : Bool) → (x == y) ≡ e → cond e (bytes_before xs ys) (nat_lt x y) ≡ false
    → bytes_before (y ∷ ys) (x ∷ xs) ≡ false → (bytes_before xs ys ≡ false → bytes_before ys xs ≡ false → xs ≡ ys)
    → x ∷ xs ≡ y ∷ ys
same_by x y xs ys true e h g rest =
    let same : x ≡ y = eqb-true x y e in
    let later : bytes_before ys xs ≡ false =
    sym (ap (λ (b : Bool). cond b (bytes_before ys xs) (nat_lt y x)) (eq-eqb y x (sym same))) ∙ g in
    ap₂ (λ (b : ℕ) (l : List ℕ). b ∷ l) same (rest h later)
same_by x y xs ys false e h g rest =
    let other = eqb-false x y e in
    let back : nat_lt y x ≡ false =
    sym (ap (λ (b : Bool). cond b (bytes_before ys xs) (nat_lt y x)) (ne_eqb y x (λ s. other (sym s)))) ∙ g in
    absurd (other (omega (arith, ltb-false x y h, ltb-false y x back)))

-- of two that differ one stands before the other
pub same_bytes : (xs ys : List ℕ) → bytes_before xs ys ≡ false → bytes_before ys xs ≡ false → xs ≡ ys
same_bytes [] [] h g = refl
same_bytes [] (y ∷ ys) h g = absurd (cc h)
same_bytes (x ∷ xs) [] h g = absurd (cc g)
same_bytes (x ∷ xs) (y ∷ ys) h g = same_by x y xs ys (x == y) refl h g (same_bytes xs ys)
