-- Which fronts of a text a transmission within the limits continues from, and where a text first leaves them.
use Rattle.std.specs.Prelude.{◌≡◌, ℕ, ◌+◌, ◌<◌, ◌≤◌, ◌⊎◌, IsFalse, List, ◌∷◌, ◌++◌, length, take, Option, Some, None}
use Rattle.std.specs.List.{AllZip}
use Rattle.cwr_fields.specs.declared.kinds.Kind.{Kind}
use Rattle.cwr_fields.specs.Format.Layouts.{layout}
use Rattle.cwr_lines.specs.Format.Records.{Row}
use Rattle.cwr_lines.specs.Format.Lines.{IsLineOf, closed, raw_lines, line_kind, line_cells, has_bad_excess}
use Rattle.cwr_shape.specs.declared.limits.Limits.{Limits}
use Rattle.cwr_values.specs.Format.Values.{TransmissionValue, IsTransmission, FitsIn}
use Rattle.cwr_values.specs.Format.Rows.{rows}

-- The row has the line's first k cells. Where k is past its last field, it has all of them, and the excess isn't bad.
abbrev pub HasCells : ℕ → Row → List ℕ → Type 0
HasCells k row line = (take k row.cells ≡ take k (line_cells line)) × (length row.cells < k → IsFalse (has_bad_excess line))

-- some transmission within the limits has rows for these lines, and then a row with the first k cells of this line
pub record Viable (limits : Limits) (before : List (List ℕ)) (line : List ℕ) (k : ℕ) : Type 0 where
  pub value : TransmissionValue
  pub whole : IsTransmission value
  pub within : FitsIn limits value
  pub front : List Row
  pub next : Row
  pub rest : List Row
  pub split : rows value ≡ front ++ next ∷ rest
  pub lines : AllZip IsLineOf front before
  pub cells : HasCells k next line

-- the number of the field after the last one, or of the first where the kind is unknown
abbrev pub last_place : Option Kind → ℕ
last_place None = 1
last_place (Some this_kind) = length (layout this_kind) + 1

-- line i of the text, from 1, is there, and nothing continues from its first k cells
pub record IsBadAt (limits : Limits) (text : List ℕ) (i k : ℕ) : Type 0 where
  pub before : List (List ℕ)
  pub line : List ℕ
  pub after : List (List ℕ)
  pub lines : raw_lines (closed text) ≡ before ++ line ∷ after
  pub at : i ≡ length before + 1
  pub from : 0 < k
  pub to : k ≤ last_place (line_kind line)
  pub bad : ¬ Viable limits before line k

-- the first place, by line and then by field, at which nothing continues
abbrev pub IsFirstBad : Limits → List ℕ → ℕ → ℕ → Type 0
IsFirstBad limits text i k = IsBadAt limits text i k × ((j l : ℕ) → IsBadAt limits text j l → (i < j) ⊎ ((i ≡ j) × (k ≤ l)))
