-- What is taken and counted after a transmission, piece by piece.
use Rattle.std.specs.Prelude.{◌≡◌, ℕ, ◌+◌, ◌-◌, ◌^◌, ◌<◌, ◌≤◌, ◌&&◌, min, nat_lt, Bool, true, false, List, [], ◌∷◌, length, slice_index}
use Rattle.std.specs.Prelude.{Option, None, Some, IfSome, if◌then◌else◌}
use Rattle.std.specs.Io.KnownBytes.{Consumes, IsAtEnd}
use Rattle.std.specs.List.{list_all}
use Rattle.cwr_causes.specs.declared.beyond.Beyond.{Beyond}
use Rattle.cwr_causes.specs.declared.beyond.Beyond.TheVariants as beyonds
use Rattle.cwr_causes.specs.declared.trailing.Trailing.{Trailing}
use Rattle.cwr_causes.specs.Format.Trailing.{first_bytes, is_filler}

-- the byte at a place of what was read: of that so many bytes, which begin so, came before the piece
abbrev pub byte_with : ℕ → List ℕ → List ℕ → ℕ → ℕ
byte_with count begins piece place = if nat_lt place count then slice_index begins place else slice_index piece (place - count)

-- the first three
abbrev pub begins_with : ℕ → List ℕ → List ℕ → List ℕ
begins_with count begins piece =
    byte_with count begins piece 0 ∷ byte_with count begins piece 1 ∷ byte_with count begins piece 2 ∷ []

-- a piece more was taken and counted, or the end was reached
pub record TakesPiece (left after : Option (List ℕ)) (old new : Trailing) (ended : Bool) : Type 0 where
  pub piece : List ℕ
  pub consumed : Consumes left after piece
  pub counted : new.bytes ≡ min (old.bytes + length piece) (2 ^ 64 - 1)
  pub begins : new.begins ≡ begins_with old.bytes old.begins piece
  pub filler : new.is_filler ≡ (old.is_filler && list_all is_filler piece)
  pub kept : new.is_all ≡ old.is_all
  pub at_end : ended ≡ true → IfSome left (λ bytes. IsAtEnd after)
  pub some : ended ≡ false → 0 < length piece

-- so many pieces were taken and counted, none of them empty, and the end wasn't reached
pub record HasTaken (left after : Option (List ℕ)) (pieces : ℕ) (found : Trailing) : Type 0 where
  pub more : List ℕ
  pub consumed : Consumes left after more
  pub counted : found.bytes ≡ min (length more) (2 ^ 64 - 1)
  pub begins : found.begins ≡ first_bytes more
  pub filler : found.is_filler ≡ list_all is_filler more
  pub each : pieces ≤ length more
  pub goes_on : found.is_all ≡ false

-- what was found after a transmission, if that was looked for
abbrev pub found_in : Beyond → Option Trailing
found_in (beyonds.Trailing found) = Some found
found_in (beyonds.GoesOn more) = None
found_in (beyonds.Numbers ahead) = None
found_in beyonds.Unasked = None
