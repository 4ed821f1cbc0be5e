-- The room that a list keeps.
use Rattle.std.specs.Prelude.{ℕ, ◌<◌, ◌≤◌}
use Rattle.std.specs.Int.{IsPowerOfTwo}

-- a list of so many elements and of that capacity keeps that room: none, or a power of two from the least on
pub record IsRoom (least room count capacity : ℕ) : Type 0 where
  pub holds : count ≤ room
  pub within : room ≤ capacity
  pub power : 0 < room → IsPowerOfTwo room
  pub enough : 0 < room → least ≤ room
