-- The number that a sequence awaits, and how it goes on after one that stands there.
use Rattle.std.specs.Prelude.{ℕ, ◌+◌, ◌-◌, ◌^◌, ◌==◌, min, nat_lt, Bool, true, false, ◌||◌, Option, Some, None, if◌then◌else◌}
use Rattle.cwr_lint_lines.specs.declared.following.Awaiting.{Awaiting}

-- the number is there, and this one
abbrev pub is_number : Option ℕ → ℕ → Bool
is_number None n = false
is_number (Some m) n = m == n

-- one more, at most the largest of 64 bits
abbrev pub one_more : ℕ → ℕ
one_more n = min (n + 1) (2 ^ 64 - 1)

-- just this number
abbrev pub just : ℕ → Awaiting
just n = record { expected = n; first = None; second = None; third = None; fourth = None }

-- the number is let pass
abbrev pub takes : Awaiting → ℕ → Bool
takes a n = (((n == a.expected || is_number a.first n) || is_number a.second n) || is_number a.third n) || is_number a.fourth n

-- another number is let pass too
abbrev pub passing : Awaiting → ℕ → Awaiting
passing a n = record { expected = a.expected; first = Some n; second = a.first; third = a.second; fourth = a.third }

-- After a number that is let pass: it goes on from there. One below the awaited number is that of a line that was missed and comes late,
-- or of one after a line too many: then the next one after the awaited is let pass too.
abbrev pub after_taken : Awaiting → ℕ → Awaiting
after_taken a n = if nat_lt n a.expected then passing (just (one_more n)) (one_more a.expected) else just (one_more n)

-- after a number that isn't: it was mistyped, or the line was one too many, or lines before it were lost
abbrev pub after_wrong : Awaiting → ℕ → Awaiting
after_wrong a n = passing (passing (just (one_more a.expected)) (one_more n)) a.expected

-- after what stands in the cell, if that is a number
abbrev pub after : Awaiting → Option ℕ → Awaiting
after a None = passing (just (one_more a.expected)) a.expected
after a (Some n) = if takes a n then after_taken a n else after_wrong a n

-- the cell is no number, or it is let pass
abbrev pub passes : Awaiting → Option ℕ → Bool
passes a None = true
passes a (Some n) = takes a n

-- the number in the cell where that is let pass, and else the awaited one
abbrev pub settled : Awaiting → Option ℕ → ℕ
settled a None = a.expected
settled a (Some n) = if takes a n then n else a.expected

-- the number in the cell where that isn't let pass
abbrev pub stranger : Awaiting → Option ℕ → Option ℕ
stranger a None = None
stranger a (Some n) = if takes a n then None else Some n

-- the awaited number, where the cell has another that isn't let pass
abbrev pub wanted : Awaiting → Option ℕ → Option ℕ
wanted a cell = if passes a cell then None else Some a.expected
