-- The first element of a text that passes a test, where the first elements don't.
use Rattle.std.proofs.Common.{◌≡◌, ℕ, zero, suc, ◌+◌, List, [], ◌∷◌, Bool, true, false, ◌||◌, cond, take, drop, option_map, refl}
use Rattle.std.proofs.Common.{sym, ap, ◌∙◌, arith, true≢false}
use Rattle.std.specs.Prelude.{Option, Some, None}
use Rattle.std.specs.List.{list_any, position_from}

-- ---- elements that don't pass are left out

pass_one : (b : Bool) (t : ℕ → Bool) (i n : ℕ) (xs : List ℕ) → (b || list_any t (take n xs)) ≡ false
    → (list_any t (take n xs) ≡ false → position_from t (i + 1) xs ≡ position_from t (i + 1 + n) (drop n xs))
    → cond b (Some i) (position_from t (i + 1) xs) ≡ position_from t (i + suc n) (drop n xs)
pass_one true t i n xs h ih = absurd (true≢false h)
pass_one false t i n xs h ih =
    let same : i + 1 + n ≡ i + suc n = omega arith in
    ih h ∙ ap (λ (k : ℕ). position_from t k (drop n xs)) same

pub passed : (t : ℕ → Bool) (i n : ℕ) (xs : List ℕ) → list_any t (take n xs) ≡ false
    → position_from t i xs ≡ position_from t (i + n) (drop n xs)
passed t i zero xs h = let same : i ≡ i + 0 = omega arith in ap (λ (k : ℕ). position_from t k xs) same
passed t i (suc n) [] h = refl
passed t i (suc n) (x ∷ xs) h = pass_one (t x) t i n xs h (passed t (i + 1) n xs)

-- ---- where a search begins

begin_one : (b : Bool) (i : ℕ) (o p : Option ℕ) → o ≡ option_map (λ k. i + k) p
    → cond b (Some i) o ≡ option_map (λ k. i + k) (cond b (Some 0) p)
begin_one true i o p h = let same : i ≡ i + 0 = omega arith in ap (λ (k : ℕ). Some k) same
begin_one false i o p h = h

moved : (i : ℕ) (o : Option ℕ) → option_map (λ k. i + 1 + k) o ≡ option_map (λ k. i + k) (option_map (λ k. 0 + 1 + k) o)
moved i None = refl
moved i (Some k) = let same : i + 1 + k ≡ i + (0 + 1 + k) = omega arith in ap (λ (n : ℕ). Some n) same

pub begun_at : (t : ℕ → Bool) (i : ℕ) (xs : List ℕ) → position_from t i xs ≡ option_map (λ k. i + k) (position_from t 0 xs)
begun_at t i [] = refl
begun_at t i (x ∷ xs) =
    begin_one (t x) i (position_from t (i + 1) xs) (position_from t (0 + 1) xs)
    (begun_at t (i + 1) xs ∙ moved i (position_from t 0 xs) ∙ ap (option_map (λ k. i + k)) (sym (begun_at t (0 + 1) xs)))
