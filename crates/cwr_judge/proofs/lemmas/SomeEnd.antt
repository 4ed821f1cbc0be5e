-- A text has some end: one that isn't accepted, and in which no place is the first bad one, is truncated.
use Rattle.std.proofs.Common.{◌≡◌, ℕ, zero, suc, ◌<◌, ◌≤◌, List, length, refl, sym, subst, arith, inl, inr, ap}
use Rattle.std.specs.Prelude.{◌⊎◌}
use Rattle.cwr_lines.specs.Format.Lines.{closed, raw_lines}
use Rattle.cwr_shape.specs.declared.limits.Limits.{Limits}
use Rattle.cwr_judge.specs.Format.Places.{IsBadAt, IsFirstBad}
use Rattle.cwr_judge.specs.Format.Ends.{IsNotAccepted, IsTruncated}

-- one number is less than the other, or they are the same
compared : (a b : ℕ) → (a < b) ⊎ ((a ≡ b) ⊎ (b < a))
compared zero zero = inr (inl refl)
compared zero (suc b) = inl (omega arith)
compared (suc a) zero = inr (inr (omega arith))
compared (suc a) (suc b) = by (compared a b)
  where
    by : (a < b) ⊎ ((a ≡ b) ⊎ (b < a)) → (suc a < suc b) ⊎ ((suc a ≡ suc b) ⊎ (suc b < suc a))
    by (inl h) = inl (omega arith)
    by (inr (inl h)) = inr (inl (ap suc h))
    by (inr (inr h)) = inr (inr (omega arith))

-- what is bad, with nothing bad before it, is bad first
pub is_first : (limits : Limits) (text : List ℕ) (i k : ℕ) → IsBadAt limits text i k
    → ((j : ℕ) → j < i → (l : ℕ) → ¬ IsBadAt limits text j l) → ((l : ℕ) → l < k → ¬ IsBadAt limits text i l)
    → IsFirstBad limits text i k
is_first limits text i k bad lines fields = (bad, λ j l other. by j l other (compared i j))
  where
    in_line : (l : ℕ) → IsBadAt limits text i l → (k < l) ⊎ ((k ≡ l) ⊎ (l < k)) → k ≤ l
    in_line l other (inl h) = omega arith
    in_line l other (inr (inl h)) = omega arith
    in_line l other (inr (inr h)) = absurd (fields l h other)

    by : (j l : ℕ) → IsBadAt limits text j l → (i < j) ⊎ ((i ≡ j) ⊎ (j < i)) → (i < j) ⊎ ((i ≡ j) × (k ≤ l))
    by j l other (inl h) = inl h
    by j l other (inr (inl h)) = inr (h, in_line l (subst (λ (n : ℕ). IsBadAt limits text n l) (sym h) other) (compared k l))
    by j l other (inr (inr h)) = absurd (lines j h l other)

-- no place is bad, where none is the first
nowhere_bad : (limits : Limits) (text : List ℕ) → ((i k : ℕ) → ¬ IsFirstBad limits text i k) → (i k : ℕ)
    → ¬ IsBadAt limits text i k
nowhere_bad limits text none i k = below (suc i) i (omega arith) k
  where
    fields_below : (i : ℕ) → ((j : ℕ) → j < i → (l : ℕ) → ¬ IsBadAt limits text j l) → (n k : ℕ) → k < n
        → ¬ IsBadAt limits text i k
    fields_below i lines zero k h bad = absurd (omega arith)
    fields_below i lines (suc n) k h bad =
        none i k (is_first limits text i k bad lines (λ l s. fields_below i lines n l (omega (arith, s, h))))

    below : (n i : ℕ) → i < n → (k : ℕ) → ¬ IsBadAt limits text i k
    below zero i h k bad = absurd (omega arith)
    below (suc n) i h k bad = fields_below i (λ j s. below n j (omega (arith, s, h))) (suc k) k (omega arith) bad

-- a text that is neither accepted nor bad at some first place is truncated
pub some_end : (limits : Limits) (text : List ℕ) → IsNotAccepted limits text → ((i k : ℕ) → ¬ IsFirstBad limits text i k)
    → IsTruncated limits text (length (raw_lines (closed text)))
some_end limits text unaccepted none = record { unaccepted = unaccepted; nowhere = nowhere_bad limits text none; count = refl }
