-- What writing does, line by line.
use Rattle.std.specs.Prelude.{◌≡◌, ℕ, false, List, [], ◌∷◌, ◌++◌, Option, Some, unwrap_or}
use Rattle.std.specs.Io.KnownBytes.{Appends}
use Rattle.cwr_fields.specs.declared.kinds.Kind.TheVariants.{Trl}
use Rattle.cwr_lines.specs.Format.Records.{RecordValue, IsRecord}
use Rattle.cwr_lines.specs.Steps.Held.{HeldLine, held_excess, held_kind, held_record}
use Rattle.cwr_shape.specs.Format.Ranges.{LimitValues}
use Rattle.cwr_values.specs.Format.Values.{TransmissionValue, IsTransmission, FitsIn}
use Rattle.cwr_values.specs.Format.Rows.{canonical_text, records_of, trailer}
use Rattle.cwr_encode.specs.declared.encoders.Encoder.{Encoder}
use Rattle.cwr_encode.specs.Steps.Encoders.{Encodes, encoder_limits, is_stopped}
use Rattle.cwr_calls.specs.declared.writing.After.{After}
use Rattle.cwr_calls.specs.declared.writing.After.TheVariants as after
use Rattle.cwr_calls.specs.Format.LineRecords.{CarryRecords}

-- the encoder represents these records, of a transmission that is to keep to the limits, and its writer hasn't failed
pub record IsWriting {W : Type 0} (contents : W → Option (List ℕ)) (start : Option (List ℕ)) (limits : LimitValues)
    (records : List RecordValue) (e : Encoder W) : Type 0 where
  pub encodes : Encodes contents start records e
  pub limits_are : encoder_limits e ≡ limits
  pub unfailed : is_stopped e ≡ false

-- these records are written after those before
abbrev pub GoesOn : {W : Type 0} → (W → Option (List ℕ)) → List RecordValue → Encoder W → Encoder W → Type 0
GoesOn contents more old new =
    (start : Option (List ℕ)) (limits : LimitValues) (records : List RecordValue) → IsWriting contents start limits records old
    → IsWriting contents start limits (records ++ more) new

-- the records of the transaction that is held
abbrev pub held_records : Option (List RecordValue) → List RecordValue
held_records held = unwrap_or held []

-- Some records are written. With those that are held then they are those that were held, and the ones that came.
pub record WritesOn {W : Type 0} (contents : W → Option (List ℕ)) (came held left : List RecordValue) (old new : Encoder W) : Type
    0 where
  pub more : List RecordValue
  pub goes_on : GoesOn contents more old new
  pub same : more ++ left ≡ held ++ came

-- the line, with nothing bad after its last field, is that of the record
pub record HoldsRecord (line : HeldLine) (r : RecordValue) : Type 0 where
  pub carried : held_record line ≡ Some r
  pub good : IsRecord r
  pub excess : held_excess line ≡ false

-- what a line does: its record is written or held; before that of TRL what is held is written
abbrev pub WritesLine : {W : Type 0} → (W → Option (List ℕ)) → HeldLine → List RecordValue → After → Encoder W → Encoder W
    → Type 0
WritesLine contents line held (after.Lines left) old new =
    (r : RecordValue) × HoldsRecord line r × WritesOn contents (r ∷ []) held (held_records left) old new
WritesLine contents line held after.Trailer old new =
    (held_kind line ≡ Some Trl) × (held_excess line ≡ false) × GoesOn contents held old new

-- what is written from the lines of a text: their records, whatever was written before
abbrev pub WritesLines : {W : Type 0} → (W → Option (List ℕ)) → List ℕ → Encoder W → Encoder W → Type 0
WritesLines contents text old new = (records : List RecordValue) × CarryRecords text records × GoesOn contents records old new

-- After what the writer had at the start, it has the canonical text of a transmission within the limits, with these records and TRL.
pub record HasCanonical {W : Type 0} (contents : W → Option (List ℕ)) (start : Option (List ℕ)) (limits : LimitValues)
    (records : List RecordValue) (writer : W) : Type 0 where
  pub value : TransmissionValue
  pub whole : IsTransmission value
  pub within : FitsIn limits value
  pub records_are : records_of value ≡ records ++ trailer ∷ []
  pub appended : Appends start (contents writer) (canonical_text value)

-- what the encoder wrote is ended
abbrev pub EndsWriting : {W : Type 0} → (W → Option (List ℕ)) → Encoder W → W → Type 0
EndsWriting contents e writer =
    (start : Option (List ℕ)) (limits : LimitValues) (records : List RecordValue) → IsWriting contents start limits records e
    → HasCanonical contents start limits records writer
