-- What a selection writes of a text, and what it answers.
use Rattle.std.specs.Prelude.{◌≡◌, ℕ, List, drop, Option, Some, IfSome, Result, Ok, Err, MatchResult}
use Rattle.std.specs.Io.KnownBytes.{Appends}
use Rattle.cwr_shape.specs.declared.limits.Limits.{Limits}
use Rattle.cwr_values.specs.Format.Values.{TransmissionValue}
use Rattle.cwr_judge.specs.Format.Ends.{IsAccepted, IsRefused, IsTruncated}
use Rattle.cwr_decode.specs.Format.Runs.{TakesFront}
use Rattle.cwr_tools.specs.declared.verdicts.ToolFault.{ToolFault}
use Rattle.cwr_tools.specs.declared.verdicts.ToolFault.TheVariants.{Refused, Truncated, Output, Limit}
use Rattle.cwr_parts.specs.Format.Joins.{IsOfDevice}
use Rattle.cwr_select.specs.declared.reports.SelectReport.{SelectReport}
use Rattle.cwr_select.specs.declared.changes.Changes.{Changes}
use Rattle.cwr_select.specs.Format.Selections.{Choice, selected_count, transactions_in}
use Rattle.cwr_select.specs.Format.Sent.{sent_text}

-- how many of a transmission's transactions are selected, and how many it has
abbrev pub select_report : Choice → TransmissionValue → SelectReport
select_report choice v = record { selected = selected_count choice v; transactions = transactions_in v.groups }

-- The text is accepted. After what the writer had, the canonical text of what is selected is written, with the changes, and the report has
-- its numbers.
pub record SelectsAll (limits : Limits) (changes : Changes) (choice : Choice) (before after old new : Option (List ℕ))
    (report : SelectReport) : Type 0
  where
    pub value : TransmissionValue
    pub taken : TakesFront limits before value after
    pub written : Appends old new (sent_text changes choice value)
    pub reported : report ≡ select_report choice value

-- A selection writes what is selected of a text that is accepted. A refusal and a truncation are the text's own, and no limit is a
-- fault: what is selected is within those that the text is within.
abbrev pub Selects : Limits → Changes → Choice → Option (List ℕ) → Option (List ℕ) → Option (List ℕ) → Option (List ℕ)
    → Result SelectReport ToolFault → Type 0
Selects limits changes choice before after old new (Ok report) = SelectsAll limits changes choice before after old new report
Selects limits changes choice before after old new (Err (Refused refusal)) = IfSome before (λ text. IsRefused limits text refusal)
Selects limits changes choice before after old new (Err (Truncated records)) =
    IfSome before (λ text. IsTruncated limits text records)
Selects limits changes choice before after old new (Err (Limit limit)) = ⊥
Selects limits changes choice before after old new (Err Output) = ⊥
Selects limits changes choice before after old new (Err fault) = Unit {0}

-- where the text is accepted, what is selected of its transmission is written with the changes, unless a device or memory failed
abbrev pub SelectsAccepted : Limits → Changes → Choice → Option (List ℕ) → Option (List ℕ) → Option (List ℕ)
    → Option (List ℕ)
    → Result SelectReport ToolFault → Type 0
SelectsAccepted limits changes choice before after old new result =
    IfSome before (λ text. (v : TransmissionValue) (n : ℕ) → IsAccepted limits text v n
    → MatchResult result (λ report. (report ≡ select_report choice v) × (after ≡ Some (drop n text))
    × Appends old new (sent_text changes choice v)) IsOfDevice)
