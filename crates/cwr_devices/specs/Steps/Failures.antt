-- What a `fill` showed, and what it counted.
use Rattle.std.specs.Prelude.{◌≡◌, ℕ, List, length, Option, Result, Ok, Err}
use Rattle.std.specs.Io.KnownBytes.{Keeps}
use Rattle.cwr_devices.specs.Format.Failures.{CountsFailure}
use denote.Ref.{Bor}

-- how many bytes a `fill` showed
abbrev pub shown_by : {E : Type 0} → Result (Bor (List ℕ)) E → ℕ
shown_by (Ok bytes) = length bytes.now
shown_by (Err e) = 0

-- the bytes that are left stay, so many of them are shown, and a failure is counted
abbrev pub ShowsBytes : {E : Type 0} → Option (List ℕ) → Option (List ℕ) → ℕ → Result (Bor (List ℕ)) E → ℕ → ℕ → Type 0
ShowsBytes left after shown result old new = Keeps left after × (shown ≡ shown_by result) × CountsFailure result old new
