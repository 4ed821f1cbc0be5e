-- The lines that say how a split or a join ended.
use Rattle.std.specs.Prelude.{ℕ, Bool, true, false, List, [], ◌++◌, Result, Ok, Err, if◌then◌else◌}
use Rattle.cwr_findings.specs.Format.ReportLines.{input_mark, joined_line, limit_line, refusal_line, split_line, truncated_line}
use Rattle.cwr_tools.specs.declared.verdicts.JoinFault.{JoinFault}
use Rattle.cwr_tools.specs.declared.verdicts.JoinReport.{JoinReport}
use Rattle.cwr_tools.specs.declared.verdicts.SplitReport.{SplitReport}
use Rattle.cwr_tools.specs.declared.verdicts.ToolFault.{ToolFault}
use Rattle.cwr_tools.specs.declared.verdicts.ToolFault.TheVariants.{Refused, Truncated, Limit}

-- the line on an input that was the fault; there is none where a device or memory failed
abbrev pub input_line : ToolFault → List ℕ
input_line (Refused refusal) = refusal_line refusal
input_line (Truncated records) = truncated_line records
input_line (Limit limit) = limit_line limit
input_line fault = []

-- the fault is that of an input
abbrev pub is_of_input : ToolFault → Bool
is_of_input (Refused refusal) = true
is_of_input (Truncated records) = true
is_of_input (Limit limit) = true
is_of_input fault = false

-- the line on a split
abbrev pub split_outcome : Result SplitReport ToolFault → List ℕ
split_outcome (Ok report) = split_line report.outputs report.transactions
split_outcome (Err fault) = input_line fault

-- the line on a join; before what it says of an input stands the number of that one
abbrev pub join_outcome : Result JoinReport JoinFault → List ℕ
join_outcome (Ok report) = joined_line report.inputs report.groups report.transactions report.records
join_outcome (Err stopped) = if is_of_input stopped.fault then input_mark stopped.input ++ input_line stopped.fault else []
