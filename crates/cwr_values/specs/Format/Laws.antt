-- What laws over transmissions and their rows say.
use Rattle.std.specs.Prelude.{◌≡◌, ◌<◌, ◌≤◌, ◌^◌, ℕ, List, ◌++◌, filter, length, map, take}
use Rattle.std.specs.List.{AllByRecursion, AllZip}
use Rattle.cwr_fields.specs.Format.Layouts.{fields_after_type}
use Rattle.cwr_lines.specs.Format.Records.{IsRecord, RecordValue}
use Rattle.cwr_shape.specs.declared.limits.Limits.{Limits}
use Rattle.cwr_shape.specs.declared.symbols.Symbol.{Symbol}
use Rattle.cwr_shape.specs.Format.Numbers.{numbers_of}
use Rattle.cwr_shape.specs.Format.Outlines.{GroupOutline, IsOutline, symbols_of}
use Rattle.cwr_values.specs.Format.Rows.{Spells, lengths_of_value, records_of, rows}
use Rattle.cwr_values.specs.Format.Values.{FitsIn, IsTransmission, TransmissionValue, outline_of, symbol_of}

-- within limits of at most 99,999,999 records and 99,999 groups each number of a transmission fits its field
abbrev pub NumbersFitTheirFields : Type 0
NumbersFitTheirFields =
    (limits : Limits) (v : TransmissionValue) → IsTransmission v → FitsIn limits v → limits.records ≤ 99999999
    → limits.groups ≤ 99999 → AllZip (λ numbers r. AllZip (λ f n. n < 10 ^ f.width) (filter (λ f. f.derived)
    (fields_after_type r.kind)) numbers) (numbers_of (lengths_of_value v)) (records_of v)

-- the text begins with that spelling of the transmission
pub record BeginsWithSpelling (text : List ℕ) (v : TransmissionValue) (front : List ℕ) : Type 0 where
  pub whole : IsTransmission v
  pub spelled : Spells v front
  pub rest : List ℕ
  pub split : text ≡ front ++ rest

-- transmissions that begin with the same records begin with the same rows
abbrev pub RowsDependOnRecordsBefore : Type 0
RowsDependOnRecordsBefore =
    (v w : TransmissionValue) (before rest others : List RecordValue) → IsTransmission v → IsTransmission w
    → records_of v ≡ before ++ rest → records_of w ≡ before ++ others → take (length before) (rows v) ≡ take (length before) (rows w)

-- records in order, with whose symbols an outline begins, begin a transmission of that outline
abbrev pub RecordsAreCompleted : Type 0
RecordsAreCompleted =
    (groups : List GroupOutline) (records : List RecordValue) (rest : List Symbol) → IsOutline groups
    → AllByRecursion IsRecord records → symbols_of groups ≡ map symbol_of records ++ rest
    → (v : TransmissionValue) × IsTransmission v × (outline_of v ≡ groups) × (more : List RecordValue)
    × (records_of v ≡ records ++ more)
