-- What a selection of a text in memory answers.
use Rattle.std.specs.Prelude.{◌≡◌, ℕ, List, Result, Ok, Err}
use Rattle.cwr_shape.specs.declared.limits.Limits.{Limits}
use Rattle.cwr_values.specs.Format.Values.{TransmissionValue}
use Rattle.cwr_judge.specs.Format.Ends.{IsAccepted, IsRefused, IsTruncated}
use Rattle.cwr_tools.specs.declared.verdicts.ToolFault.{ToolFault}
use Rattle.cwr_tools.specs.declared.verdicts.ToolFault.TheVariants.{Refused, Truncated}
use Rattle.cwr_select.specs.declared.reports.SelectReport.{SelectReport}
use Rattle.cwr_select.specs.Format.Selections.{selected, selected_count}
use Rattle.cwr_select.specs.Format.Sent.{text_of}
use Rattle.cwr_calls.specs.Format.Selected.{at_places}

-- what is selected of an accepted text is made, and the report has its number; a refusal and a truncation are the text's own
abbrev pub SelectsText : Limits → List ℕ → List (ℕ × ℕ) → List ℕ → Result SelectReport ToolFault → Type 0
SelectsText limits text places made (Ok report) =
    (v : TransmissionValue) × (n : ℕ) × IsAccepted limits text v n × (made ≡ text_of (selected (at_places places) v))
    × (report.selected ≡ selected_count (at_places places) v)
SelectsText limits text places made (Err (Refused refusal)) = IsRefused limits text refusal
SelectsText limits text places made (Err (Truncated records)) = IsTruncated limits text records
SelectsText limits text places made (Err fault) = Unit {0}
