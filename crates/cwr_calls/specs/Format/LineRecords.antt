-- The records that the lines of a text carry, whatever their numbers.
use Rattle.std.specs.Prelude.{◌≡◌, ◌⊎◌, ℕ, false, List, [], ◌∷◌, ◌++◌, Some}
use Rattle.std.specs.List.{AllZip, flat_map}
use Rattle.cwr_fields.specs.declared.kinds.Kind.TheVariants.{Trl}
use Rattle.cwr_lines.specs.Format.Lines.{body_kind, closed, excess_as, without_cr}
use Rattle.cwr_lines.specs.Format.Records.{RecordValue, IsRecord}
use Rattle.cwr_decode.specs.Format.Entries.{carried}
use Rattle.cwr_decode.specs.Format.WholeLines.{IsLine}

-- The line carries the record: but for one carriage return at its end, it is cut by the layout of its kind, each carried cell is one of
-- its field, and what stands after the last field is all spaces.
pub record CarriesRecord (line : List ℕ) (r : RecordValue) : Type 0 where
  pub is_line : IsLine line
  pub carries : carried (without_cr line) ≡ Some r
  pub good : IsRecord r
  pub excess : excess_as (body_kind (without_cr line)) false (without_cr line) ≡ false

-- nothing is left, or the next line is TRL's
abbrev pub IsAtTrailer : List ℕ → Type 0
IsAtTrailer rest =
    (rest ≡ [])
    ⊎ ((line : List ℕ) × (more : List ℕ) × (rest ≡ line ++ 10 ∷ more) × IsLine line × (body_kind (without_cr line) ≡ Some Trl))

-- The lines of the text, up to its end or to TRL's, carry the records; its last line may lack its line feed.
pub record CarryRecords (text : List ℕ) (records : List RecordValue) : Type 0 where
  pub lines : List (List ℕ)
  pub rest : List ℕ
  pub split : closed text ≡ flat_map (λ line. line ++ 10 ∷ []) lines ++ rest
  pub each : AllZip CarriesRecord lines records
  pub left : IsAtTrailer rest
