-- What finishing does to an encoder's writer.
use Rattle.std.specs.Prelude.{◌≡◌, ℕ, false, List, Option, Result, Ok, Err}
use Rattle.cwr_devices.specs.Format.Failures.{one_more_failure}
use Rattle.cwr_lines.specs.Format.Records.{RecordValue}
use Rattle.cwr_values.specs.Format.Values.{TransmissionValue}
use Rattle.cwr_values.specs.Format.Rows.{canonical_text}
use Rattle.cwr_encode.specs.declared.encoders.Encoder.{Encoder}
use Rattle.cwr_encode.specs.declared.encoders.EncodeFault.{EncodeFault}
use Rattle.cwr_encode.specs.declared.encoders.EncodeFault.TheVariants.{Writer}
use Rattle.cwr_encode.specs.Steps.Encoders.{Encodes, encoder_limits, is_stopped, target_of}
use Rattle.cwr_encode.specs.Format.Finishing.{Completes, HasAll, HasFront}

-- Where all goes well the canonical text of the transmission is written that the accepted records and TRL are, and its
-- length is the answer; where the writer fails, its first bytes are. Where the call is refused nothing is written.
abbrev pub FinishesWriting : {W : Type 0} → (W → Option (List ℕ)) → (W → ℕ) → Encoder W → W → Result ℕ EncodeFault → Type 0
FinishesWriting contents failures e writer (Ok n) = (failures writer ≡ failures (target_of e))
    × ((start : Option (List ℕ)) (records : List RecordValue) → Encodes contents start records e
    → (v : TransmissionValue) × Completes (encoder_limits e) records v × HasAll contents start writer (canonical_text v) n)
FinishesWriting contents failures e writer (Err (Writer n)) = (failures writer ≡ one_more_failure (failures (target_of e)))
    × ((start : Option (List ℕ)) (records : List RecordValue) → Encodes contents start records e
    → (v : TransmissionValue) × Completes (encoder_limits e) records v × HasFront contents start writer (canonical_text v) n)
FinishesWriting contents failures e writer (Err fault) = writer ≡ target_of e

-- where the encoder hasn't stopped, finishing it does that
abbrev pub Finishes : {W : Type 0} → (W → Option (List ℕ)) → (W → ℕ) → Encoder W → W → Result ℕ EncodeFault → Type 0
Finishes contents failures e writer result = is_stopped e ≡ false → FinishesWriting contents failures e writer result
