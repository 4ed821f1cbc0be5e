-- What stands of a sender in a row.
use Rattle.std.proofs.Common.{◌≡◌, ℕ, List, [], ◌∷◌, ◌++◌, length, take, drop, slice_index_or, refl, arith}
use Rattle.std.specs.Prelude.{codes}

-- a text of eleven bytes, with a space after the second
pub eleven : (s : List ℕ) → length s ≡ 11
    → slice_index_or s 0 0 ∷ slice_index_or s 1 0 ∷ 32 ∷ slice_index_or s 2 0 ∷ slice_index_or s 3 0 ∷ slice_index_or s 4 0 ∷ slice_index_or s 5 0 ∷ slice_index_or s 6 0 ∷ slice_index_or s 7 0 ∷ slice_index_or s 8 0 ∷ slice_index_or s 9 0 ∷ slice_index_or s 10 0 ∷ []
    ≡ take 2 s ++ codes " " ++ drop 2 s
eleven (b1 ∷ b2 ∷ b3 ∷ b4 ∷ b5 ∷ b6 ∷ b7 ∷ b8 ∷ b9 ∷ b10 ∷ b11 ∷ []) e = refl
eleven [] e = absurd (omega (arith, e))
eleven (b1 ∷ []) e = absurd (omega (arith, e))
eleven (b1 ∷ b2 ∷ []) e = absurd (omega (arith, e))
eleven (b1 ∷ b2 ∷ b3 ∷ []) e = absurd (omega (arith, e))
eleven (b1 ∷ b2 ∷ b3 ∷ b4 ∷ []) e = absurd (omega (arith, e))
eleven (b1 ∷ b2 ∷ b3 ∷ b4 ∷ b5 ∷ []) e = absurd (omega (arith, e))
eleven (b1 ∷ b2 ∷ b3 ∷ b4 ∷ b5 ∷ b6 ∷ []) e = absurd (omega (arith, e))
eleven (b1 ∷ b2 ∷ b3 ∷ b4 ∷ b5 ∷ b6 ∷ b7 ∷ []) e = absurd (omega (arith, e))
eleven (b1 ∷ b2 ∷ b3 ∷ b4 ∷ b5 ∷ b6 ∷ b7 ∷ b8 ∷ []) e = absurd (omega (arith, e))
eleven (b1 ∷ b2 ∷ b3 ∷ b4 ∷ b5 ∷ b6 ∷ b7 ∷ b8 ∷ b9 ∷ []) e = absurd (omega (arith, e))
eleven (b1 ∷ b2 ∷ b3 ∷ b4 ∷ b5 ∷ b6 ∷ b7 ∷ b8 ∷ b9 ∷ b10 ∷ []) e = absurd (omega (arith, e))
eleven (b1 ∷ b2 ∷ b3 ∷ b4 ∷ b5 ∷ b6 ∷ b7 ∷ b8 ∷ b9 ∷ b10 ∷ b11 ∷ b12 ∷ rest) e = absurd (omega (arith, e))
