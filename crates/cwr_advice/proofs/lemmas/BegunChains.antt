-- A look from the end of the first records back to the first, and the first record alone.
use Rattle.std.proofs.Common.{◌≡◌, ℕ, zero, suc, ◌+◌, ◌<◌, ◌≤◌, Bool, false, List, [], ◌∷◌, length, take, drop, refl, sym, ap}
use Rattle.std.proofs.Common.{◌∙◌, arith}
use Rattle.std.specs.Prelude.{Some, None, slice_get}
use Rattle.std.specs.List.{list_any}
use Rattle.std.proofs.lemmas.Bool.{or_from}
use Rattle.std.proofs.lemmas.List.{drop_all}
use Rattle.cwr_findings.proofs.lemmas.OneMore.{drop_more, none_there_is_end}
use Rattle.cwr_findings.proofs.lemmas.RuleTests.{or_none}

-- a record among the first ones is the same there
pub found_in_front : {X : Type 0} → (t : List X) (i n : ℕ) (r : X) → slice_get t i ≡ Some r → i < n
    → slice_get (take n t) i ≡ Some r
found_in_front [] i n r e h = absurd (cc e)
found_in_front (x ∷ t) zero zero r e h = absurd (omega (arith, h))
found_in_front (x ∷ t) zero (suc n) r e h = e
found_in_front (x ∷ t) (suc i) zero r e h = absurd (omega (arith, h))
found_in_front (x ∷ t) (suc i) (suc n) r e h = found_in_front t i n r e (omega (arith, h))

-- where no record is, all are before
pub none_within : {X : Type 0} → (t : List X) (i : ℕ) → None ≡ slice_get t i → length t ≤ i
none_within t i h = none_there_is_end t i (λ r e. absurd (cc (h, e)))

pub drop_none : {X : Type 0} → (t : List X) → drop 0 t ≡ t
drop_none [] = refl
drop_none (x ∷ t) = refl

-- one more from behind that doesn't pass
pub one_before : {X : Type 0} → (p : X → Bool) (t : List X) (i k : ℕ) (r : X) → i + 1 ≡ k → slice_get t i ≡ Some r → p r ≡ false
    → list_any p (drop k t) ≡ false → list_any p (drop i t) ≡ false
one_before p t i k r next e here rest =
    ap (list_any p) (drop_more t i r e)
    ∙ or_from (p r) (list_any p (drop (i + 1) t)) here (ap (λ (n : ℕ). list_any p (drop n t)) next ∙ rest)

-- behind the end stands none
pub none_behind : {X : Type 0} → (p : X → Bool) (t : List X) (i : ℕ) → length t ≤ i → list_any p (drop i t) ≡ false
none_behind p t i h = ap (list_any p) (drop_all i t h)

pub none_at_all : {X : Type 0} → (p : X → Bool) (t : List X) (i : ℕ) → i ≤ 0 → list_any p (drop i t) ≡ false
    → false ≡ list_any p t
none_at_all p t i h none =
    let start : 0 ≡ i =
    omega (arith, h) in sym (ap (list_any p) (sym (drop_none t)) ∙ ap (λ (n : ℕ). list_any p (drop n t)) start ∙ none)

-- the first record passes, or not
pub first_alone : {X : Type 0} → (p : X → Bool) (t : List X) (r : X) → Some r ≡ slice_get t 0 → p r ≡ list_any p (take 1 t)
first_alone p [] r e = absurd (cc e)
first_alone p (x ∷ t) r e = let same : r ≡ x = cc e in ap p same ∙ sym (or_none (p x))
