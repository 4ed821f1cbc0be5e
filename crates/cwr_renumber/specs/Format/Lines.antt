-- The lines of a text, and the records that they carry, whatever their numbers.
use Rattle.std.specs.Prelude.{◌≡◌, ◌⊎◌, ℕ, false, List, [], ◌∷◌, ◌++◌, Some}
use Rattle.std.specs.List.{AllZip, flat_map}
use Rattle.cwr_lines.specs.Format.Lines.{body_kind, excess_as, without_cr}
use Rattle.cwr_lines.specs.Format.Records.{RecordValue}
use Rattle.cwr_decode.specs.Format.Entries.{carried}
use Rattle.cwr_decode.specs.Format.WholeLines.{IsLine}

-- The line carries the record: but for one carriage return at its end, it is cut by the layout of its kind, and what stands after
-- the last field is all spaces. Its derived cells may be anything.
pub record Carries (line : List ℕ) (r : RecordValue) : Type 0 where
  pub is_line : IsLine line
  pub carries : carried (without_cr line) ≡ Some r
  pub excess : excess_as (body_kind (without_cr line)) false (without_cr line) ≡ false

-- lines one after another, the last without a line feed
abbrev pub without_last_feed : List (List ℕ) → List ℕ
without_last_feed [] = []
without_last_feed (line ∷ []) = line
without_last_feed (line ∷ lines) = line ++ 10 ∷ without_last_feed lines

-- the text begins with the lines, each with its line feed, or it is these lines and its last one has none
abbrev pub BeginsWithLines : List ℕ → List (List ℕ) → Type 0
BeginsWithLines text lines =
    ((rest : List ℕ) × (text ≡ flat_map (λ line. line ++ 10 ∷ []) lines ++ rest)) ⊎ (text ≡ without_last_feed lines)

-- the text begins with lines that carry the records
pub record BeginsWithRecords (text : List ℕ) (records : List RecordValue) : Type 0 where
  pub lines : List (List ℕ)
  pub split : BeginsWithLines text lines
  pub each : AllZip Carries lines records
