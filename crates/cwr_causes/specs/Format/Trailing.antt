-- What is taken from a reader after a verdict, and what stands after a transmission.
use Rattle.std.specs.Prelude.{◌≡◌, ℕ, ◌-◌, ◌^◌, ◌≤◌, ◌==◌, ◌||◌, min, Bool, true, false, List, [], ◌∷◌, length, slice_index, Option}
use Rattle.std.specs.Prelude.{IfSome, Result, Ok, Err}
use Rattle.std.specs.Io.KnownBytes.{Consumes, IsAtEnd}
use Rattle.std.specs.List.{list_all}
use Rattle.cwr_devices.specs.Format.Failures.{one_more_failure}
use Rattle.cwr_devices.specs.declared.devices.DeviceFault.{DeviceFault}
use Rattle.cwr_causes.specs.declared.trailing.Trailing.{Trailing}

-- bytes were taken from a reader
abbrev pub TakesMore : Option (List ℕ) → Option (List ℕ) → Type 0
TakesMore left after = (more : List ℕ) × Consumes left after more

-- the first three bytes, with 0 in the place of each that isn't there
abbrev pub first_bytes : List ℕ → List ℕ
first_bytes text = slice_index text 0 ∷ slice_index text 1 ∷ slice_index text 2 ∷ []

-- a byte that only fills up a file: a zero, a tab, a line feed, a carriage return, DOS's end mark or a space
abbrev pub is_filler : ℕ → Bool
is_filler b = (b == 0) || ((b == 9) || ((b == 10) || ((b == 13) || ((b == 26) || (b == 32)))))

-- What stands after a transmission was read and counted, all of it where that is said. Where it isn't, a million bytes were.
pub record IsTrailing (left after : Option (List ℕ)) (found : Trailing) : Type 0 where
  pub more : List ℕ
  pub consumed : Consumes left after more
  pub counted : found.bytes ≡ min (length more) (2 ^ 64 - 1)
  pub begins : found.begins ≡ first_bytes more
  pub filler : found.is_filler ≡ list_all is_filler more
  pub all : found.is_all ≡ true → IfSome left (λ bytes. IsAtEnd after)
  pub some : found.is_all ≡ false → 1000000 ≤ length more

-- a call that only reads counts its failure
abbrev pub CountsRead : {A : Type 0} → Result A DeviceFault → ℕ → ℕ → Type 0
CountsRead (Ok x) old new = new ≡ old
CountsRead (Err fault) old new = new ≡ one_more_failure old
