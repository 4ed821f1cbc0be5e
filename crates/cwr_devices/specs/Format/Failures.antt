-- How the calls of a source and of a target count their failures.
use Rattle.std.specs.Prelude.{◌≡◌, ℕ, ◌+◌, ◌-◌, ◌<◌, ◌^◌, min, Result, Ok, Err}

-- the highest count of failures
abbrev pub most_failures : ℕ
most_failures = 2 ^ 64 - 1

-- the count after one more failure: at the highest it stays
abbrev pub one_more_failure : ℕ → ℕ
one_more_failure failures = min (failures + 1) most_failures

-- a call counts its failure: only a call that fails raises the count, and at the highest no call succeeds
abbrev pub CountsFailure : {A E : Type 0} → Result A E → ℕ → ℕ → Type 0
CountsFailure (Ok x) old new = (new ≡ old) × (old < most_failures)
CountsFailure (Err e) old new = new ≡ one_more_failure old
