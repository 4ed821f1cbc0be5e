-- Text that goes on over the end of its cell, as where blanks were lost before it.
use Rattle.std.specs.Prelude.{ℕ, ◌-◌, Bool, false, not, ◌&&◌, ◌||◌, ◌==◌, nat_eq, List, [], ◌∷◌, codes, length, slice_index}
use Rattle.std.specs.List.{starts_with}
use Rattle.cwr_advice.specs.Format.Numbers.{is_letter}

-- a letter ends it
abbrev pub ends_with_letter : List ℕ → Bool
ends_with_letter cell = not (length cell == 0) && is_letter (slice_index cell (length cell - 1))

-- a letter begins it
abbrev pub begins_with_letter : List ℕ → Bool
begins_with_letter cell = not (length cell == 0) && is_letter (slice_index cell 0)

-- three blanks stand together in the cell behind something else
abbrev pub has_gap : List ℕ → Bool
has_gap [] = false
has_gap (b ∷ rest) = (not (b == 32) && starts_with nat_eq rest (codes "   ")) || has_gap rest
