-- The first records of a list with one more of them, and what a test finds among them.
use Rattle.std.proofs.Common.{◌≡◌, ℕ, zero, suc, ◌+◌, ◌≤◌, ◌<◌, Bool, true, false, List, [], ◌∷◌, ◌++◌, length, take, drop, refl}
use Rattle.std.proofs.Common.{sym, ap, ◌∙◌, arith, inl, inr}
use Rattle.std.specs.Prelude.{Some, slice_get, ◌||◌, ◌⊎◌}
use Rattle.std.specs.List.{list_any}
use Rattle.std.proofs.lemmas.Bool.{false_from_ne_true, or_left, or_right, or_from}
use Rattle.std.proofs.lemmas.List.{take_all, length-take-le}
use Rattle.std.proofs.lemmas.List.Folds.{list_any-append}
use Rattle.std.proofs.lemmas.Option.{slice_get_within}

taken : {X : Type 0} → (t : List X) (k : ℕ) (r : X) → slice_get t k ≡ Some r → take (suc k) t ≡ take k t ++ r ∷ []
taken [] k r e = absurd (cc e)
taken {X} (x ∷ t) zero r e = let same : x ≡ r = cc e in ap (λ (y : X). y ∷ []) same
taken {X} (x ∷ t) (suc k) r e = ap (λ (l : List X). x ∷ l) (taken t k r e)

pub take_more : {X : Type 0} → (t : List X) (k : ℕ) (r : X) → slice_get t k ≡ Some r → take (k + 1) t ≡ take k t ++ r ∷ []
take_more {X} t k r e = let next : k + 1 ≡ suc k = omega arith in ap (λ (n : ℕ). take n t) next ∙ taken t k r e

pub length_taken : {X : Type 0} → (t : List X) (k : ℕ) (r : X) → slice_get t k ≡ Some r → length (take k t) ≡ k
length_taken t k r e = length-take-le k t (omega (arith, slice_get_within t k r e))

pub none_there_is_end : {X : Type 0} → (t : List X) (k : ℕ) → ((r : X) → slice_get t k ≡ Some r → ⊥) → length t ≤ k
none_there_is_end [] k h = omega arith
none_there_is_end (x ∷ t) zero h = absurd (h x refl)
none_there_is_end (x ∷ t) (suc k) h = omega (arith, none_there_is_end t k h)

dropped : {X : Type 0} → (t : List X) (k : ℕ) (r : X) → slice_get t k ≡ Some r → drop k t ≡ r ∷ drop (suc k) t
dropped [] k r e = absurd (cc e)
dropped {X} (x ∷ t) zero r e = let same : x ≡ r = cc e in ap (λ (y : X). y ∷ t) same
dropped (x ∷ t) (suc k) r e = dropped t k r e

pub drop_more : {X : Type 0} → (t : List X) (k : ℕ) (r : X) → slice_get t k ≡ Some r → drop k t ≡ r ∷ drop (k + 1) t
drop_more {X} t k r e = let next : suc k ≡ k + 1 = omega arith in dropped t k r e ∙ ap (λ (n : ℕ). r ∷ drop n t) next

-- what stands at a place of a longer list
pub there_or_last : {X : Type 0} → (t : List X) (r : X) (k : ℕ) (x : X) → slice_get (t ++ r ∷ []) k ≡ Some x
    → ((k < length t) × (slice_get t k ≡ Some x)) ⊎ ((k ≡ length t) × (x ≡ r))
there_or_last [] r zero x e = let same : r ≡ x = cc e in inr (refl, sym same)
there_or_last [] r (suc k) x e = absurd (cc e)
there_or_last (y ∷ t) r zero x e = inl (omega arith, e)
there_or_last (y ∷ t) r (suc k) x e = elim (there_or_last t r k x e) [
  | inl (below, there) ↦ inl (omega (arith, below), there)
  | inr (last, same) ↦ inr (omega (arith, last), same)
]

-- ---- what a test finds

-- one more that doesn't pass
pub none_more : {X : Type 0} → (p : X → Bool) (t : List X) (k : ℕ) (r : X) → slice_get t k ≡ Some r
    → list_any p (take k t) ≡ false → p r ≡ false → list_any p (take (k + 1) t) ≡ false
none_more p t k r e before here =
    ap (list_any p) (take_more t k r e) ∙ list_any-append p (take k t) (r ∷ [])
    ∙ or_from (list_any p (take k t)) (list_any p (r ∷ [])) before (or_from (p r) false here refl)

-- none up to the end, and so none among however many
pub none_at_end : {X : Type 0} → (p : X → Bool) (t : List X) (k n : ℕ) → length t ≤ k → k ≤ n → list_any p (take k t) ≡ false
    → false ≡ list_any p (take n t)
none_at_end p t k n end more before =
    sym before ∙ ap (list_any p) (take_all k t end ∙ sym (take_all n t (omega (arith, end, more))))

-- a record that passes is found among the first ones
pub any_there : {X : Type 0} → (p : X → Bool) (t : List X) (i n : ℕ) (r : X) → slice_get t i ≡ Some r → p r ≡ true → i < n
    → list_any p (take n t) ≡ true
any_there p [] i n r e q h = absurd (cc e)
any_there p (x ∷ t) i zero r e q h = absurd (omega (arith, h))
any_there p (x ∷ t) zero (suc n) r e q h = let same : x ≡ r = cc e in or_left (p x) (list_any p (take n t)) (ap p same ∙ q)
any_there p (x ∷ t) (suc i) (suc n) r e q h = or_right (p x) (list_any p (take n t)) (any_there p t i n r e q (omega (arith, h)))

-- where all that pass are among the first ones, none is missed
pub any_among_first : {X : Type 0} → (p : X → Bool) (t : List X) (n : ℕ)
    → ((i : ℕ) (r : X) → slice_get t i ≡ Some r → p r ≡ true → i < n) → list_any p (take n t) ≡ list_any p t
any_among_first p [] zero h = refl
any_among_first p [] (suc n) h = refl
any_among_first {X} p (x ∷ t) zero h =
    let head : p x ≡ false = false_from_ne_true (p x) (λ e. absurd (omega (arith, h 0 x refl e))) in
    let rest : list_any p (take 0 t) ≡ list_any p t =
    any_among_first p t zero (λ i r e q. absurd (omega (arith, h (suc i) r e q))) in
    rw head (none t ∙ rest)
  where
    none : (t : List X) → false ≡ list_any p (take 0 t)
    none [] = refl
    none (x ∷ t) = refl
any_among_first p (x ∷ t) (suc n) h =
    ap (λ (b : Bool). p x || b)
    (any_among_first p t n (λ i r e q. let below : suc i < suc n = h (suc i) r e q in omega (arith, below)))
