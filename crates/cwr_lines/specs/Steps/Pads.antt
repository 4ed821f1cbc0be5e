-- The front of a piece as it is copied into a pad, and the line end that follows it.
use Rattle.std.specs.Prelude.{◌≡◌, ℕ, ◌+◌, ◌<◌, Bool, true, false, List, length, take, slice_index}
use Rattle.cwr_fields.specs.Format.Bytes.{is_plain}

-- the text begins with so many bytes of the piece, none of which is a control byte
pub record Copies (text piece : List ℕ) (count : ℕ) : Type 0 where
  pub within : count < length piece
  pub same : take count text ≡ take count piece
  pub plain : is_plain (take count piece) ≡ true

-- a line end stands there: a line feed, or a carriage return and a line feed
abbrev pub EndsAt : List ℕ → ℕ → Bool → Type 0
EndsAt piece at false = slice_index piece at ≡ 10
EndsAt piece at true = (slice_index piece at ≡ 13) × (slice_index piece (at + 1) ≡ 10)
