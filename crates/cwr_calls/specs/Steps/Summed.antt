-- What a summary answers to C.
use Rattle.std.specs.Prelude.{◌≡◌, ◌⊎◌, ℕ, List, Option, Some}
use Rattle.cwr_shape.specs.declared.limits.Limits.{Limits}
use Rattle.cwr_shape.specs.Format.Ranges.{limit_values}
use Rattle.cwr_values.specs.declared.items.Item.{Item}
use Rattle.cwr_tools.specs.declared.verdicts.Verdict.{Verdict}
use Rattle.cwr_tools.specs.Steps.Verdicts.{IsRightVerdict}
use Rattle.cwr_summary.specs.declared.summaries.Summary.{Summary}
use Rattle.cwr_summary.specs.Format.Summaries.{IsSummaryOf, lines_of_nothing}
use Rattle.cwr_calls.specs.declared.verdicts.CwrVerdict.{CwrVerdict}
use Rattle.cwr_calls.specs.Format.Answers.{IsOutOfRange}
use Rattle.cwr_calls.specs.Format.Copies.{CopiesOut}
use Rattle.cwr_calls.specs.Format.VerdictNumbers.{ended, in_c}
use Rattle.cwr_calls.specs.Steps.Checked.{MayLackMemory}

-- these are the numbers of the items that come before the verdict on the text
abbrev pub SumsText : Limits → List ℕ → Verdict → List ℕ → Type 0
SumsText limits text verdict numbers =
    (given : List Item) × (after : Option (List ℕ)) × IsRightVerdict limits (Some text) verdict after given
    × IsSummaryOf given numbers

-- and so are those of a summary
abbrev pub IsSummedOn : Limits → List ℕ → Verdict → Summary → Type 0
IsSummedOn limits text verdict summary = SumsText limits text verdict summary.numbers

-- Nothing is put, and told 4, where a limit is out of its range, and 3 where memory was refused, which can only be for a transaction or its
-- findings. Else the numbers are put, and the verdict on the text is told.
abbrev pub TellsSummary : ℕ → ℕ → ℕ → List ℕ → List ℕ → List ℕ → ℕ → CwrVerdict → Type 0
TellsSummary records groups transaction text old new count told =
    (IsOutOfRange records groups transaction × (told ≡ ended 4) × (count ≡ 0) × (new ≡ old))
    ⊎ ((told ≡ ended 3) × (count ≡ 0) × (new ≡ old)
    × MayLackMemory lines_of_nothing (limit_values records groups transaction) text)
    ⊎ ((verdict : Verdict) × (numbers : List ℕ) × (told ≡ in_c verdict)
    × SumsText (limit_values records groups transaction) text verdict numbers × CopiesOut numbers old new count)
