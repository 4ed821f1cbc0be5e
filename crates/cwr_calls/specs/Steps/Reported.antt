-- What is written of a text, and what C is told of that.
use Rattle.std.specs.Prelude.{◌≡◌, ◌⊎◌, ℕ, false, true, List, [], ◌++◌, Option, Some, None, Result, Ok, Err, nat_eq, if◌then◌else◌}
use Rattle.cwr_shape.specs.Format.Ranges.{limit_values}
use Rattle.cwr_shape.specs.declared.limits.Limits.{Limits}
use Rattle.cwr_values.specs.declared.items.Item.{Item}
use Rattle.cwr_tools.specs.declared.verdicts.Verdict.{Verdict}
use Rattle.cwr_tools.specs.declared.verdicts.ToolFault.{ToolFault}
use Rattle.cwr_tools.specs.Format.Verdicts.{IsVerdictOn}
use Rattle.cwr_tools.specs.Format.Reports.{ItemLines, lines_of_data, lines_of_explained, lines_of_findings, lines_of_records}
use Rattle.cwr_tools.specs.Format.Reports.{text_on}
use Rattle.cwr_tools.specs.Steps.Verdicts.{IsRightVerdict}
use Rattle.cwr_json.specs.declared.encodings.Encoding.TheVariants.{Latin1}
use Rattle.cwr_lint.specs.Format.Wanted.{Wanted, wanting}
use Rattle.cwr_lint.specs.Steps.Lints.{Tells}
use Rattle.cwr_calls.specs.declared.report_texts.Asked.{Asked}
use Rattle.cwr_calls.specs.declared.report_texts.Asked.TheVariants as asks
use Rattle.cwr_calls.specs.declared.verdicts.CwrVerdict.{CwrVerdict}
use Rattle.cwr_calls.specs.Format.Answers.{IsOutOfRange}
use Rattle.cwr_calls.specs.Format.Copies.{CopiesOut}
use Rattle.cwr_calls.specs.Format.VerdictNumbers.{ended, in_c}

-- what a number asks for
abbrev pub asked_by : ℕ → Option Asked
asked_by n = if nat_eq n 0 then Some asks.Check
    else (if nat_eq n 1 then Some asks.Show
    else (if nat_eq n 2 then Some asks.Explain
    else (if nat_eq n 3 then Some asks.Data
    else (if nat_eq n 4 then Some asks.NotedData
    else (if nat_eq n 5 then Some asks.Lint
    else (if nat_eq n 6 then Some asks.ExplainedLint else None))))))

-- the verdict is that on the text
abbrev pub IsJudged : Limits → List ℕ → Result Verdict ToolFault → Type 0
IsJudged limits text (Ok verdict) = IsVerdictOn limits text verdict
IsJudged limits text (Err fault) = Unit {0}

-- these items come before the verdict, and the report is the text on both
abbrev pub IsTextOn : ItemLines → Limits → List ℕ → List ℕ → Verdict → Type 0
IsTextOn of limits text report verdict =
    (given : List Item) × (after : Option (List ℕ)) × IsRightVerdict limits (Some text) verdict after given
    × (report ≡ text_on of given verdict)

-- so it begins, and words come after it
abbrev pub IsExplainedOn : Limits → List ℕ → List ℕ → Verdict → Type 0
IsExplainedOn limits text report verdict = (given : List Item) × (after : Option (List ℕ)) × (words : List ℕ)
    × IsRightVerdict limits (Some text) verdict after given × (report ≡ text_on lines_of_explained given verdict ++ words)

-- the report is what a lint of the text that wants so much tells, with that verdict
abbrev pub IsLintOn : Wanted → Limits → List ℕ → List ℕ → Verdict → Type 0
IsLintOn wanted limits text report verdict =
    (after : Option (List ℕ)) × Tells wanted limits (Some text) after (λ (t : List ℕ). Some t) [] report verdict

-- the report that is asked for
abbrev pub IsReportOn : Asked → Limits → List ℕ → List ℕ → Verdict → Type 0
IsReportOn asks.Check limits text report verdict = IsTextOn lines_of_findings limits text report verdict
IsReportOn asks.Show limits text report verdict = IsTextOn lines_of_records limits text report verdict
IsReportOn asks.Explain limits text report verdict = IsExplainedOn limits text report verdict
IsReportOn asks.Data limits text report verdict = IsTextOn (lines_of_data Latin1 false) limits text report verdict
IsReportOn asks.NotedData limits text report verdict = IsTextOn (lines_of_data Latin1 true) limits text report verdict
IsReportOn asks.Lint limits text report verdict = IsLintOn (wanting false false false) limits text report verdict
IsReportOn asks.ExplainedLint limits text report verdict = IsLintOn (wanting true false false) limits text report verdict

-- where there is a verdict, the report on it was written
abbrev pub IsWritten : (Verdict → Type 0) → Result Verdict ToolFault → Type 0
IsWritten is (Ok verdict) = is verdict
IsWritten is (Err fault) = Unit {0}

-- Nothing was told: 4 where a limit is out of its range or nothing that is known is asked for, 3 where memory was refused. Else the
-- verdict on the text, and its report.
abbrev pub TellsReport : ℕ → ℕ → ℕ → ℕ → List ℕ → List ℕ → List ℕ → ℕ → CwrVerdict → Type 0
TellsReport what records groups transaction text old new count told =
    ((IsOutOfRange records groups transaction ⊎ (asked_by what ≡ None)) × (told ≡ ended 4) × (count ≡ 0) × (new ≡ old))
    ⊎ ((told ≡ ended 3) × (count ≡ 0) × (new ≡ old))
    ⊎ ((asked : Asked) × (verdict : Verdict) × (report : List ℕ) × (asked_by what ≡ Some asked) × (told ≡ in_c verdict)
    × IsVerdictOn (limit_values records groups transaction) text verdict
    × IsReportOn asked (limit_values records groups transaction) text report verdict × CopiesOut report old new count)
