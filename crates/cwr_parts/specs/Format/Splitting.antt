-- The outputs of a split, and how it ends.
use Rattle.std.specs.Prelude.{◌≡◌, ℕ, ◌/◌, List, ◌++◌, length, map, take, drop, count_by, sum_by, Option, Some, IfSome, Result}
use Rattle.std.specs.Prelude.{Ok, Err, MatchResult}
use Rattle.cwr_devices.specs.Format.Failures.{one_more_failure}
use Rattle.cwr_shape.specs.declared.limits.Limits.{Limits}
use Rattle.cwr_values.specs.declared.items.Item.{Item}
use Rattle.cwr_values.specs.Format.Values.{TransmissionValue, IsTransmission, FitsIn}
use Rattle.cwr_values.specs.Format.Rows.{canonical_text}
use Rattle.cwr_judge.specs.Format.Ends.{IsAccepted, IsRefused, IsTruncated}
use Rattle.cwr_judge.specs.Format.Items.{AreFirstItems, is_transaction, value_items}
use Rattle.cwr_decode.specs.Format.Runs.{TakesFront}
use Rattle.cwr_tools.specs.declared.verdicts.SplitReport.{SplitReport}
use Rattle.cwr_tools.specs.declared.verdicts.ToolFault.{ToolFault}
use Rattle.cwr_tools.specs.declared.verdicts.ToolFault.TheVariants.{Writer, Refused, Truncated, Output, Limit}
use Rattle.cwr_devices.specs.Format.Outputs.{AddsTexts, HasBytes}
use Rattle.cwr_parts.specs.Format.Splits.{split_of}
use Rattle.cwr_parts.specs.Format.Joins.{CountsInputFault, CountsOutputFault, IsOfDevice}

-- the numbers of a transmission that is split into runs of n
abbrev pub split_report : ℕ → TransmissionValue → SplitReport
split_report n v = record { outputs = length (split_of n v); transactions = sum_by (λ g. length g.transactions) v.groups }

-- the texts of its first outputs, so many
abbrev pub first_texts : ℕ → ℕ → TransmissionValue → List (List ℕ)
first_texts n count v = map canonical_text (take count (split_of n v))

-- The items begin a transmission within the limits. The outputs have had the texts of the runs that the transactions of the items
-- fill, whatever transmission within the limits they begin.
pub record HasFullRuns (limits : Limits) (n : ℕ) (given : List Item) (old new : Option (List (List ℕ))) : Type 0 where
  pub begun : AreFirstItems limits given
  pub texts : (v : TransmissionValue) (rest : List Item) → IsTransmission v → FitsIn limits v → value_items v ≡ given ++ rest
      → AddsTexts old new (first_texts n (count_by is_transaction given / n) v)

-- all outputs were handed over
pub record SplitsAll (limits : Limits) (n : ℕ) (before after : Option (List ℕ)) (old new : Option (List (List ℕ)))
    (report : SplitReport) : Type 0 where
  pub value : TransmissionValue
  pub taken : TakesFront limits before value after
  pub texts : AddsTexts old new (map canonical_text (split_of n value))
  pub reported : report ≡ split_report n value

-- ---- failures

-- the reader's failures count one more where its fault is reported, and else they stay
abbrev pub CountsSplitReader : {A : Type 0} → Result A ToolFault → ℕ → ℕ → Type 0
CountsSplitReader (Ok x) old new = new ≡ old
CountsSplitReader (Err fault) old new = CountsInputFault fault old new

-- so do those of making and finishing outputs
abbrev pub CountsSplitOutput : {A : Type 0} → Result A ToolFault → ℕ → ℕ → Type 0
CountsSplitOutput (Err Output) old new = new ≡ one_more_failure old
CountsSplitOutput result old new = new ≡ old

-- and so does the number of failed writers that were given up
abbrev pub CountsSplitWriter : {A : Type 0} → Result A ToolFault → ℕ → ℕ → Type 0
CountsSplitWriter (Ok x) old new = new ≡ old
CountsSplitWriter (Err fault) old new = CountsOutputFault fault old new

-- the fault of a writer tells how many bytes the one had that was given up last
abbrev pub TellsBytes : ToolFault → Option (List ℕ) → Type 0
TellsBytes (Writer written) had = HasBytes had written
TellsBytes fault had = Unit {0}

abbrev pub TellsWritten : {A : Type 0} → Result A ToolFault → Option (List ℕ) → Type 0
TellsWritten (Ok x) had = Unit {0}
TellsWritten (Err fault) had = TellsBytes fault had

-- ---- what is answered

-- The answer is right of the text: all is split where that begins with a transmission within the limits, of which it loses just that
-- front, and the refusal or the number of records is the text's. No limit is a fault of its own.
abbrev pub JudgesSplit : Limits → Option (List ℕ) → Option (List ℕ) → Result SplitReport ToolFault → Type 0
JudgesSplit limits before after (Ok report) =
    IfSome before (λ text. (v : TransmissionValue) × (n : ℕ) × IsAccepted limits text v n × (after ≡ Some (drop n text)))
JudgesSplit limits before after (Err (Refused refusal)) = IfSome before (λ text. IsRefused limits text refusal)
JudgesSplit limits before after (Err (Truncated records)) = IfSome before (λ text. IsTruncated limits text records)
JudgesSplit limits before after (Err (Limit limit)) = ⊥
JudgesSplit limits before after (Err fault) = Unit {0}

-- ---- what is answered where the input is accepted

-- the fault is one of making and finishing outputs, of another device, or of memory
abbrev pub IsOfSplitDevice : ToolFault → Type 0
IsOfSplitDevice Output = Unit {0}
IsOfSplitDevice fault = IsOfDevice fault

-- where the input is accepted its transmission is split, unless a device or memory failed
abbrev pub SplitsAccepted : Limits → ℕ → Option (List ℕ) → Option (List ℕ) → Option (List (List ℕ)) → Option (List (List ℕ))
    → Result SplitReport ToolFault → Type 0
SplitsAccepted limits n before after old new result =
    IfSome before (λ text. (v : TransmissionValue) (count : ℕ) → IsAccepted limits text v count
    → MatchResult result (λ report. (report ≡ split_report n v) × (after ≡ Some (drop count text))
    × AddsTexts old new (map canonical_text (split_of n v))) IsOfSplitDevice)
