-- The line that says how a renumbering ended.
use Rattle.std.specs.Prelude.{ℕ, List, Result, Ok, Err}
use Rattle.cwr_findings.specs.Format.ReportLines.{good_line}
use Rattle.cwr_tools.specs.declared.verdicts.JoinReport.{JoinReport}
use Rattle.cwr_tools.specs.declared.verdicts.ToolFault.{ToolFault}
use Rattle.cwr_parts.specs.Format.Outcomes.{input_line}

-- the verdict on what was written, or the line on the input
abbrev pub renumber_outcome : Result JoinReport ToolFault → List ℕ
renumber_outcome (Ok report) = good_line report.groups report.transactions report.records
renumber_outcome (Err fault) = input_line fault
