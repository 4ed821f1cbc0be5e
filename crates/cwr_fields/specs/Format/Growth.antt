-- When a list that grows asks for memory.
use Rattle.std.specs.Prelude.{ℕ, ◌<◌, ◌≤◌}
use Rattle.std.specs.Int.{IsPowerOfTwo}

-- growing from so many elements to so many passes a size at which memory is asked for: a power of two, from the least on
abbrev pub PassesSize : ℕ → ℕ → ℕ → Type 0
PassesSize least before after = (size : ℕ) × (IsPowerOfTwo size × ((least ≤ size) × ((before ≤ size) × (size < after))))

-- a list asks for memory with its first elements, and where it passes such a size
abbrev pub Outgrows : ℕ → ℕ → ℕ → Type 0
Outgrows least before after = 0 < before → PassesSize least before after
