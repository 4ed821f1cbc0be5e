-- How a text ends: accepted, refused or truncated.
use Rattle.std.specs.Prelude.{◌≡◌, ℕ, ◌+◌, ◌-◌, min, List, ◌∷◌, ◌++◌, length, Option, option_and_then, slice_get}
use Rattle.cwr_fields.specs.declared.kinds.Kind.{Kind}
use Rattle.cwr_lines.specs.Format.Lines.{closed, raw_lines, line_kind}
use Rattle.cwr_shape.specs.declared.limits.Limits.{Limits}
use Rattle.cwr_shape.specs.Format.Levels.{level_of, scope_after_kind}
use Rattle.cwr_values.specs.Format.Values.{TransmissionValue, IsTransmission, FitsIn}
use Rattle.cwr_values.specs.Format.Rows.{Spells}
use Rattle.cwr_judge.specs.declared.refusals.Refusal.{Refusal}
use Rattle.cwr_judge.specs.Format.Places.{IsBadAt, IsFirstBad}
use Rattle.cwr_judge.specs.Format.Reasons.{IsReason}

-- the text begins with a spelling of the transmission, which is within the limits, and that takes n of its bytes
pub record IsAccepted (limits : Limits) (text : List ℕ) (v : TransmissionValue) (n : ℕ) : Type 0 where
  pub whole : IsTransmission v
  pub within : FitsIn limits v
  pub front : List ℕ
  pub rest : List ℕ
  pub split : closed text ≡ front ++ rest
  pub spelled : Spells v front
  pub taken : n ≡ min (length front) (length text)

-- the text begins with no spelling of a transmission within the limits
abbrev pub IsNotAccepted : Limits → List ℕ → Type 0
IsNotAccepted limits text = (v : TransmissionValue) (n : ℕ) → ¬ IsAccepted limits text v n

-- the kind of the last line, if there is one
abbrev pub last_kind : List (List ℕ) → Option Kind
last_kind before = option_and_then line_kind (slice_get before (length before - 1))

-- the text isn't accepted, and the refusal names the first place at which nothing continues, why, and how much that rejects
pub record IsRefused (limits : Limits) (text : List ℕ) (refusal : Refusal) : Type 0 where
  pub unaccepted : IsNotAccepted limits text
  pub first : IsFirstBad limits text refusal.rec refusal.field
  pub before : List (List ℕ)
  pub line : List ℕ
  pub after : List (List ℕ)
  pub lines : raw_lines (closed text) ≡ before ++ line ∷ after
  pub at : refusal.rec ≡ length before + 1
  pub reason : IsReason limits before line refusal.field refusal.reason
  pub level : refusal.level ≡ level_of (line_kind line) refusal.field refusal.reason (scope_after_kind (last_kind before))

-- no refusal is one of the text
abbrev pub IsNotRefused : Limits → List ℕ → Type 0
IsNotRefused limits text = (refusal : Refusal) → ¬ IsRefused limits text refusal

-- the text isn't accepted, something continues from each of its lines, and there are so many
pub record IsTruncated (limits : Limits) (text : List ℕ) (records : ℕ) : Type 0 where
  pub unaccepted : IsNotAccepted limits text
  pub nowhere : (i k : ℕ) → ¬ IsBadAt limits text i k
  pub count : records ≡ length (raw_lines (closed text))
