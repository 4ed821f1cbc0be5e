-- A run that reports on a text: what it reads, writes and answers.
use Rattle.std.specs.Prelude.{◌≡◌, ℕ, Bool, true, List, Option, OnOk, Result}
use Rattle.cwr_shape.specs.declared.limits.Limits.{Limits}
use Rattle.cwr_tools.specs.declared.verdicts.Verdict.{Verdict}
use Rattle.cwr_tools.specs.declared.verdicts.ToolFault.{ToolFault}
use Rattle.cwr_tools.specs.Format.Reports.{CountsReaderFault, CountsWriterFault, ItemLines, ReportsText}
use Rattle.cwr_tools.specs.Format.Verdicts.{JudgesText}
use Rattle.cwr_tools.specs.Steps.Reports.{Reports}

-- These lines are written of what the reader has, which is read from the one state to the other, after what the writer had. Of any
-- reader that is said by what was read of it, and of bytes that are known in the words of the text alone; on these the verdict is that
-- which is answered, unless a device or memory failed. No failure is passed over: a device failed only where that is the answer. After
-- a verdict all that was written was handed on.
pub record Runs {R W : Type 0} (of : ItemLines) (limits : Limits) (remaining : R → Option (List ℕ)) (read_failures : R → ℕ)
    (reader read : R) (contents : W → Option (List ℕ)) (failures : W → ℕ) (handed_on : W → Bool) (old new : W)
    (result : Result Verdict ToolFault) : Type 0 where
  pub reported : Reports of limits (remaining reader) (remaining read) contents old new result
  pub told : ReportsText of limits (remaining reader) (remaining read) contents old new result
  pub judged : JudgesText limits (remaining reader) result
  pub reader_failures : CountsReaderFault result (read_failures reader) (read_failures read)
  pub writer_failures : CountsWriterFault result (failures old) (failures new)
  pub all_handed_on : OnOk result (handed_on new ≡ true)
