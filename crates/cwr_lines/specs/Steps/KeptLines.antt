-- Records that are kept as whole lines, one after another in one text.
use Rattle.std.specs.Prelude.{◌≡◌, ℕ, ◌+◌, ◌≤◌, List, [], ◌∷◌, ◌++◌, length, map, take, drop}
use Rattle.std.specs.List.{AllByRecursion, flat_map}
use Rattle.cwr_lines.specs.declared.record_lists.LineStart.{LineStart}
use Rattle.cwr_lines.specs.Format.Growth.{lines_width}
use Rattle.cwr_fields.specs.Format.Layouts.{line_width}
use Rattle.cwr_lines.specs.Format.Records.{RecordValue, IsRecord, full_line, row_of}
use Rattle.cwr_lines.specs.Steps.Carried.{record_in}

-- the line at a place of the text
abbrev pub line_at : List ℕ → LineStart → List ℕ
line_at text p = take (line_width p.kind) (drop p.start text)

-- the same with its end
abbrev pub ended_line_at : List ℕ → LineStart → List ℕ
ended_line_at text p = line_at text p ++ 13 ∷ 10 ∷ []

-- the record that it carries
abbrev pub record_at : List ℕ → LineStart → RecordValue
record_at text p = record_in p.kind (line_at text p)

-- the records at these starts
abbrev pub kept_records : List ℕ → List LineStart → List RecordValue
kept_records text starts = map (record_at text) starts

-- the line stands in the text, and carries a record
pub record IsKeptLine (text : List ℕ) (p : LineStart) : Type 0 where
  pub within : p.start + line_width p.kind ≤ length text
  pub fits : IsRecord (record_at text p)

-- the text is the lines at these starts, each with its end, and no more than those
pub record KeepsLines (text : List ℕ) (starts : List LineStart) : Type 0 where
  pub each : AllByRecursion (IsKeptLine text) starts
  pub whole : length text ≡ lines_width (kept_records text starts)
  pub joined : text ≡ flat_map (ended_line_at text) starts

-- the line is the canonical one of its record, with these numbers
abbrev pub IsNumbered : ℕ → ℕ → List ℕ → LineStart → Type 0
IsNumbered j k text p = line_at text p ≡ full_line (row_of (j ∷ k ∷ []) (record_at text p))

-- those of a transaction's records from record k on are
abbrev pub AreNumbered : ℕ → ℕ → List ℕ → List LineStart → Type 0
AreNumbered j k text [] = Unit {0}
AreNumbered j k text (p ∷ starts) = IsNumbered j k text p × AreNumbered j (k + 1) text starts
