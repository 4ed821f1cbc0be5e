-- What has been written once some records were accepted.
use Rattle.std.specs.Prelude.{◌≡◌, ℕ, List, ◌++◌, length, take}
use Rattle.std.specs.List.{flat_map}
use Rattle.cwr_lines.specs.Format.Records.{RecordValue}
use Rattle.cwr_shape.specs.declared.limits.Limits.{Limits}
use Rattle.cwr_values.specs.Format.Values.{TransmissionValue, IsTransmission, FitsIn}
use Rattle.cwr_values.specs.Format.Rows.{rows, records_of, canonical_line}

-- the records begin a transmission within the limits, and the text is the canonical text of its rows so far
pub record IsPart (limits : Limits) (records : List RecordValue) (text : List ℕ) : Type 0 where
  pub value : TransmissionValue
  pub whole : IsTransmission value
  pub within : FitsIn limits value
  pub rest : List RecordValue
  pub begins : records_of value ≡ records ++ rest
  pub written : text ≡ flat_map canonical_line (take (length records) (rows value))
