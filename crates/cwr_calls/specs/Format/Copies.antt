-- How a list is handed to C.
use Rattle.std.specs.Prelude.{◌≡◌, ℕ, List, ◌++◌, length, take, drop, min}

-- the list's first elements are in the room, as many as it has, and the answer is the list's length
pub record CopiesOut {X : Type 0} (all old new : List X) (count : ℕ) : Type 0 where
  pub counted : count ≡ length all
  pub copied : new ≡ take (min (length all) (length old)) all ++ drop (min (length all) (length old)) old
