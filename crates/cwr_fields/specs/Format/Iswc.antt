-- The International Standard Musical Work Code of ISO 15707, without its separators.
use Rattle.std.specs.Prelude.{ℕ, ◌+◌, ◌-◌, ◌*◌, ◌%◌, Bool, ◌&&◌, ◌==◌, List, [], ◌∷◌, length, map, slice_index, drop, zip}
use Rattle.std.specs.List.{sum_by}
use Rattle.cwr_fields.specs.Format.Bytes.{are_digits}

-- the factors of the nine digits and of the check digit
abbrev pub factors : List ℕ
factors = 1 ∷ 2 ∷ 3 ∷ 4 ∷ 5 ∷ 6 ∷ 7 ∷ 8 ∷ 9 ∷ 1 ∷ []

-- `T` and ten digits, such that one and the digits by their factors add up to a multiple of ten
abbrev pub is_iswc : List ℕ → Bool
is_iswc cell = (length cell == 11) && (slice_index cell 0 == 84) && are_digits (drop 1 cell)
    && ((1 + sum_by (λ p. p.0 * p.1) (zip factors (map (λ b. b - 48) (drop 1 cell)))) % 10 == 0)
