-- What is written for C, and what it is told of that.
use Rattle.std.specs.Prelude.{◌≡◌, ◌≢◌, ◌⊎◌, ℕ, List, [], ◌∷◌, ◌++◌}
use Rattle.cwr_lines.specs.Format.Records.{RecordValue}
use Rattle.cwr_shape.specs.Format.Ranges.{LimitValues, limit_values}
use Rattle.cwr_values.specs.Format.Values.{TransmissionValue, IsTransmission, FitsIn}
use Rattle.cwr_values.specs.Format.Rows.{canonical_text, records_of, trailer}
use Rattle.cwr_calls.specs.declared.writing.CwrWritten.{CwrWritten}
use Rattle.cwr_calls.specs.Format.Copies.{CopiesOut}
use Rattle.cwr_calls.specs.Format.LineRecords.{CarryRecords}

-- the text is the canonical text of a transmission within the limits
pub record IsCanonical (limits : LimitValues) (text : List ℕ) : Type 0 where
  pub value : TransmissionValue
  pub whole : IsTransmission value
  pub within : FitsIn limits value
  pub text_is : text ≡ canonical_text value

-- and that transmission's records are those of the lines, and TRL
pub record IsCanonicalOf (limits : LimitValues) (lines text : List ℕ) : Type 0 where
  pub canonical : IsCanonical limits text
  pub records : List RecordValue
  pub carry : CarryRecords lines records
  pub records_are : records_of canonical.value ≡ records ++ trailer ∷ []

-- nothing was written; or the canonical text of the transmission was whose records the lines carry
abbrev pub TellsWritten : ℕ → ℕ → ℕ → List ℕ → List ℕ → List ℕ → ℕ → CwrWritten → Type 0
TellsWritten records groups transaction lines old new count told =
    ((told.ending ≢ 0) × (count ≡ 0) × (new ≡ old))
    ⊎ ((told ≡ record { ending = 0; detail = 0; line = 0 })
    × ((text : List ℕ) × IsCanonicalOf (limit_values records groups transaction) lines text × CopiesOut text old new count))

-- the canonical text of a transmission within the limits was written; or words were that say why none was, and where
abbrev pub TellsImported : ℕ → ℕ → ℕ → List ℕ → List ℕ → ℕ → CwrWritten → Type 0
TellsImported records groups transaction old new count told =
    ((told.ending ≢ 0) × ((words : List ℕ) × CopiesOut words old new count))
    ⊎ ((told.ending ≡ 0)
    × ((text : List ℕ) × IsCanonical (limit_values records groups transaction) text × CopiesOut text old new count))
