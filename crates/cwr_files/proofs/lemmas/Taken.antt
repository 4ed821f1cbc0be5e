-- The first bytes of a text, with more of it.
use Rattle.std.proofs.Common.{◌≡◌, ℕ, ◌-◌, ◌≤◌, Bool, true, false, cond, ltb, List, ◌++◌, Some, None, position, length, take, min, refl, sym, ap, ◌∙◌, arith, append-nil, length-take-le, ltb-true, ltb-false}
use Rattle.std.specs.List.{position_or_len}
use Rattle.std.proofs.Math.Seq.{take-append-add}
use Rattle.std.proofs.lemmas.List.{take_all, take_min, take-append-le}
use Rattle.std.proofs.lemmas.Option.{none-some}

-- so many first bytes of one text, and what of another finds room with them, are the first of both
pub taken : (n : ℕ) (before bytes : List ℕ)
    → take n before ++ take (min (n - length (take n before)) (length bytes)) bytes ≡ take n (before ++ bytes)
taken n before bytes = by (ltb n (length before)) refl
  where
    front : ℕ → List ℕ
    front m = take (min m (length bytes)) bytes

    more : length before ≤ n → take n before ++ front (n - length (take n before)) ≡ take n (before ++ bytes)
    more le =
        ap (λ (l : List ℕ). l ++ front (n - length l)) (take_all n before le)
        ∙ ap (λ (l : List ℕ). before ++ l) (take_min (n - length before) bytes)
        ∙ sym (take-append-add before bytes (n - length before))
        ∙ ap (λ (m : ℕ). take m (before ++ bytes)) (omega (arith, le))

    none : n ≤ length before → n - length (take n before) ≡ 0
    none le = omega (arith, length-take-le n before le)

    full : n ≤ length before → take n before ++ front (n - length (take n before)) ≡ take n (before ++ bytes)
    full le =
        ap (λ (m : ℕ). take n before ++ front m) (none le)
        ∙ ap (λ (l : List ℕ). take n before ++ l) (take_min 0 bytes)
        ∙ append-nil (take n before) ∙ sym (take-append-le n before bytes le)

    by : (x : Bool) → ltb n (length before) ≡ x
        → take n before ++ front (n - length (take n before)) ≡ take n (before ++ bytes)
    by true e = full (omega (arith, ltb-true n (length before) e))
    by false e = more (ltb-false n (length before) e)

-- nothing is found only where all fail
pub none_found : (p : ℕ → Bool) (xs : List ℕ) → position p xs ≡ None → length xs ≤ position_or_len p xs
none_found p xs e = by (ltb (position_or_len p xs) (length xs)) refl e
  where
    by : (x : Bool) → ltb (position_or_len p xs) (length xs) ≡ x → cond x (Some (position_or_len p xs)) None ≡ None
        → length xs ≤ position_or_len p xs
    by true at is = absurd (none-some (position_or_len p xs) (sym is))
    by false at is = ltb-false (position_or_len p xs) (length xs) at
