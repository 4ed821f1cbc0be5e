-- What a lint writes at the end of a text.
use Rattle.std.specs.Prelude.{ℕ, Bool, true, false, List, []}
use Rattle.cwr_findings.specs.Format.ReportLines.{truncated_line}
use Rattle.cwr_lint_lines.specs.Format.FaultsAtFields.{report_number}

-- the line on a text that ends too early, unless its last line was that of its end
abbrev pub truncated_unless : Bool → ℕ → List ℕ
truncated_unless true n = []
truncated_unless false n = truncated_line (report_number n)
