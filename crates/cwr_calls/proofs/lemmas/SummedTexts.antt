-- What was summed up where a text has a verdict.
use Rattle.std.proofs.Common.{◌≡◌, ℕ, List, Option, Some, subst}
use Rattle.std.specs.Prelude.{IfOk, Result, Ok, Err}
use Rattle.cwr_shape.specs.declared.limits.Limits.{Limits}
use Rattle.cwr_values.specs.declared.items.Item.{Item}
use Rattle.cwr_tools.specs.declared.verdicts.Verdict.{Verdict}
use Rattle.cwr_tools.specs.declared.verdicts.ToolFault.{ToolFault}
use Rattle.cwr_tools.specs.Steps.Reports.{StandsAtEnd}
use Rattle.cwr_tools.specs.Steps.Verdicts.{IsRightVerdict}
use Rattle.cwr_summary.specs.Format.Summaries.{IsSummaryOf}
use Rattle.cwr_calls.specs.Steps.Summed.{SumsText}

-- the numbers are those of the items before the verdict
pub summed_on : (stands : List Item → Type 0) (limits : Limits) (before after : Option (List ℕ)) (text numbers : List ℕ)
    (result : Result Verdict ToolFault) → before ≡ Some text → StandsAtEnd stands limits before after result
    → ((given : List Item) → stands given → IsSummaryOf given numbers)
    → IfOk result (λ verdict. SumsText limits text verdict numbers)
summed_on stands limits before after text numbers (Ok verdict) is h sums =
    (h.0, after, subst (λ (b : Option (List ℕ)). IsRightVerdict limits b verdict after h.0) is h.1, sums h.0 h.2)
summed_on stands limits before after text numbers (Err fault) is h sums = tt
