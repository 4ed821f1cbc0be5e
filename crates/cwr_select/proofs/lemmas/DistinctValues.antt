-- Values that are kept each once are in order, and no others.
use Rattle.std.proofs.Common.{◌≡◌, ◌+◌, Less, Bool, true, false, ◌||◌, cond, List, [], ◌∷◌, get_or, refl, sym, ap, ◌∙◌, arith}
use Rattle.std.specs.Prelude.{IsSorted}
use Rattle.std.specs.List.{IsDistinct, dedup, dedup_from, list_any}
use Rattle.std.specs.Cmp.{IsEquivalence, IsTotalOrder}
use Rattle.std.specs.Ordering.{eq_by_cmp, is_eq, is_lt, ordering_reverse}
use Rattle.std.specs.declared.cmp.Ordering.{Ordering}
use Rattle.std.proofs.lemmas.List.Kept.{IsStrictlySortedBy-dedup}
use Rattle.std.proofs.lemmas.Map.Keys.{IsDistinct-from_apart, Less-from_sorted}

or_twice : (a b : Bool) → (a || (a || b)) ≡ (a || b)
or_twice true b = refl
or_twice false b = refl

-- the first value, and those after it
kept_first : {K : Type 0} {E : K → K → Bool} (e : IsEquivalence E) (k x : K) (xs : List K) (z : K) (b : Bool) → E x k ≡ b
    → list_any (λ y. E y z) (dedup_from E k xs) ≡ (E k z || list_any (λ y. E y z) xs)
    → list_any (λ y. E y z) (dedup_from E x xs) ≡ (E x z || list_any (λ y. E y z) xs)
    → list_any (λ y. E y z) (dedup_from E k (x ∷ xs)) ≡ (E k z || (E x z || list_any (λ y. E y z) xs))
kept_first {E = E} e k x xs z true h of_k of_x =
    ap (λ (b : Bool). list_any (λ y. E y z) (cond b (dedup_from E k xs) (k ∷ dedup_from E x xs))) h ∙ of_k
    ∙ sym (ap (λ (b : Bool). E k z || (b || list_any (λ y. E y z) xs)) (e.congr x k z h)
    ∙ or_twice (E k z) (list_any (λ y. E y z) xs))
kept_first {E = E} e k x xs z false h of_k of_x =
    ap (λ (b : Bool). list_any (λ y. E y z) (cond b (dedup_from E k xs) (k ∷ dedup_from E x xs))) h
    ∙ ap (λ (b : Bool). E k z || b) of_x

from_same : {K : Type 0} {E : K → K → Bool} (e : IsEquivalence E) (k : K) (xs : List K) (z : K)
    → list_any (λ y. E y z) (dedup_from E k xs) ≡ (E k z || list_any (λ y. E y z) xs)
from_same e k [] z = refl
from_same {E = E} e k (x ∷ xs) z = kept_first e k x xs z (E x k) refl (from_same e k xs z) (from_same e x xs z)

-- what is kept is among them exactly where it was
pub kept_same : {K : Type 0} {E : K → K → Bool} (e : IsEquivalence E) (xs : List K) (z : K)
    → list_any (λ y. E y z) (dedup E xs) ≡ list_any (λ y. E y z) xs
kept_same e [] z = refl
kept_same e (x ∷ xs) z = from_same e x xs z

not_after : (o : Ordering) → o ≡ Less → is_lt (ordering_reverse o) ≡ false
not_after o e = ap (λ (p : Ordering). is_lt (ordering_reverse p)) e

-- in order
pub kept_sorted : {K : Type 0} {R : K → K → Ordering} (o : IsTotalOrder R) {E : K → K → Bool} → ((x y : K) → E x y ≡ eq_by_cmp R x y)
    → (xs : List K) → IsSorted R xs → IsSorted R (dedup E xs)
kept_sorted {R = R} o {E = E} ties xs sorted = λ k d low high.
    let ys = dedup E xs in
    let less : R (get_or ys k d) (get_or ys (k + 1) d) ≡ Less =
    Less-from_sorted R ys k (k + 1) d (IsStrictlySortedBy-dedup o ties xs sorted) (omega arith) high in
    ap is_lt (o.antisymm (get_or ys (k + 1) d) (get_or ys k d)) ∙ not_after (R (get_or ys k d) (get_or ys (k + 1) d)) less

apart : (o : Ordering) → o ≡ Less → is_eq o ≡ false
apart o e = ap is_eq e

-- each once
pub kept_once : {K : Type 0} {R : K → K → Ordering} (o : IsTotalOrder R) {E : K → K → Bool} → ((x y : K) → E x y ≡ eq_by_cmp R x y)
    → (xs : List K) → IsSorted R xs → IsDistinct E (dedup E xs)
kept_once {R = R} o {E = E} ties xs sorted =
    let ys = dedup E xs in
    IsDistinct-from_apart E ys (λ i j d less high.
    ties (get_or ys i d) (get_or ys j d)
    ∙ apart (R (get_or ys i d) (get_or ys j d)) (Less-from_sorted R ys i j d (IsStrictlySortedBy-dedup o ties xs sorted) less high))
