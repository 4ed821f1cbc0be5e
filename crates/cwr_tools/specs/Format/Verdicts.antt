-- The verdict on the bytes that a reader has.
use Rattle.std.specs.Prelude.{◌≡◌, ℕ, ◌-◌, List, drop, take, Option, Some, IfSome, Result, Ok, Err}
use Rattle.std.specs.List.{AllByRecursion, AllZip}
use Rattle.cwr_lines.specs.Format.Lines.{IsLineOf, closed, raw_lines}
use Rattle.cwr_lines.specs.Format.Records.{IsRow, Row}
use Rattle.cwr_shape.specs.declared.limits.Limits.{Limits}
use Rattle.cwr_values.specs.declared.items.Item.{Item}
use Rattle.cwr_values.specs.Format.Values.{TransmissionValue}
use Rattle.cwr_decode.specs.declared.readings.ReadFault.{ReadFault}
use Rattle.cwr_decode.specs.declared.readings.ReadFault.TheVariants as read_faults
use Rattle.cwr_judge.specs.Format.Ends.{IsAccepted, IsRefused, IsTruncated}
use Rattle.cwr_judge.specs.Format.Items.{items, value_items}
use Rattle.cwr_tools.specs.declared.verdicts.Verdict.{Verdict}
use Rattle.cwr_tools.specs.declared.verdicts.Verdict.TheVariants.{Good, Refused, Truncated}
use Rattle.cwr_tools.specs.declared.verdicts.ToolFault.{ToolFault}
use Rattle.cwr_tools.specs.declared.verdicts.ToolFault.TheVariants.{Reader, Writer, Memory}
use Rattle.cwr_tools.specs.Format.Texts.{good_verdict}

-- The verdict is that on the text: good where it begins with a transmission within the limits, with that one's numbers, and else
-- the refusal with which it is refused or the number of records after which it is truncated.
abbrev pub IsVerdictOn : Limits → List ℕ → Verdict → Type 0
IsVerdictOn limits text (Good groups transactions records) =
    (v : TransmissionValue) × (n : ℕ) × IsAccepted limits text v n × (Good groups transactions records ≡ good_verdict v)
IsVerdictOn limits text (Refused refusal) = IsRefused limits text refusal
IsVerdictOn limits text (Truncated records) = IsTruncated limits text records

-- the items are those that the text's first lines give, so many: each is the line of a row, and of no other
pub record AreItemsOfLines (text : List ℕ) (count : ℕ) (given : List Item) : Type 0 where
  pub rows : List Row
  pub each : AllByRecursion IsRow rows
  pub lines : AllZip IsLineOf rows (take count (raw_lines (closed text)))
  pub given_are : given ≡ items rows

-- The verdict is that on the text, and these are the items before its end: those of the transmission, or those that the lines
-- before the refused one give, or that all lines of a truncated text do.
abbrev pub IsVerdictAfter : Limits → List ℕ → Verdict → List Item → Type 0
IsVerdictAfter limits text (Good groups transactions records) given =
    (v : TransmissionValue) × (n : ℕ) × IsAccepted limits text v n × (Good groups transactions records ≡ good_verdict v)
    × (given ≡ value_items v)
IsVerdictAfter limits text (Refused refusal) given = IsRefused limits text refusal × AreItemsOfLines text (refusal.rec - 1) given
IsVerdictAfter limits text (Truncated records) given = IsTruncated limits text records × AreItemsOfLines text records given

-- of a text that is accepted just the bytes that spell its transmission are taken
abbrev pub TakesSpelling : Limits → List ℕ → Option (List ℕ) → Type 0
TakesSpelling limits text after = (v : TransmissionValue) (n : ℕ) → IsAccepted limits text v n → after ≡ Some (drop n text)

-- where the bytes are known, the verdict is that on them; else a device or memory failed
abbrev pub JudgesText : Limits → Option (List ℕ) → Result Verdict ToolFault → Type 0
JudgesText limits before (Ok verdict) = IfSome before (λ text. IsVerdictOn limits text verdict)
JudgesText limits before (Err Reader) = Unit {0}
JudgesText limits before (Err (Writer written)) = Unit {0}
JudgesText limits before (Err Memory) = Unit {0}
JudgesText limits before (Err fault) = ⊥

-- what a fault of a reading is reported as
abbrev pub IsVerdictOf : ReadFault → Result Verdict ToolFault → Type 0
IsVerdictOf read_faults.Reader result = result ≡ Err Reader
IsVerdictOf (read_faults.Refused refusal) result = result ≡ Ok (Refused refusal)
IsVerdictOf (read_faults.Truncated records) result = result ≡ Ok (Truncated records)
IsVerdictOf read_faults.Memory result = result ≡ Err Memory

-- an answer after a verdict: the verdict, or that a device or memory failed
abbrev pub IsAnswerTo : Verdict → Result Verdict ToolFault → Type 0
IsAnswerTo verdict (Ok other) = other ≡ verdict
IsAnswerTo verdict (Err Reader) = Unit {0}
IsAnswerTo verdict (Err (Writer written)) = Unit {0}
IsAnswerTo verdict (Err Memory) = Unit {0}
IsAnswerTo verdict (Err fault) = ⊥

-- what the answer of a check becomes: a fault stays
abbrev pub IsAnswerAfter : Result Verdict ToolFault → Result Verdict ToolFault → Type 0
IsAnswerAfter (Ok verdict) result = IsAnswerTo verdict result
IsAnswerAfter (Err fault) result = result ≡ Err fault
