-- What a law over numbers that are put right says.
use Rattle.std.specs.Prelude.{ℕ, List, length, ◌≤◌}
use Rattle.cwr_shape.specs.declared.limits.Limits.{Limits}
use Rattle.cwr_values.specs.Format.Rows.{records_of}
use Rattle.cwr_values.specs.Format.Values.{FitsIn, IsTransmission, TransmissionValue}
use Rattle.cwr_judge.specs.Format.Ends.{IsAccepted}
use Rattle.cwr_renumber.specs.Format.Lines.{BeginsWithRecords}
use Rattle.cwr_renumber.specs.Steps.Renumbered.{renumbered_text}

-- where a text's first lines carry the records of a transmission within the limits, the text is accepted as that one with its numbers
-- put right
abbrev pub NumbersArePutRight : Type 0
NumbersArePutRight =
    (limits : Limits) (text : List ℕ) (v : TransmissionValue) → IsTransmission v → FitsIn limits v
    → length (records_of v) ≤ 99999999 → BeginsWithRecords text (records_of v)
    → (n : ℕ) × IsAccepted limits (renumbered_text text) v n
