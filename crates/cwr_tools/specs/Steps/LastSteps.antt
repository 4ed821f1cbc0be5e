-- A run that goes on after its verdict.
use Rattle.std.specs.Prelude.{◌≡◌, ℕ, Bool, true, List, Option, IsSomeAnd, OnOk, Result, Ok, Err}
use Rattle.std.specs.Io.KnownBytes.{Appends, Consumes}
use Rattle.cwr_shape.specs.declared.limits.Limits.{Limits}
use Rattle.cwr_values.specs.declared.items.Item.{Item}
use Rattle.cwr_decode.specs.declared.readings.LastRead.{LastRead}
use Rattle.cwr_tools.specs.declared.verdicts.Verdict.{Verdict}
use Rattle.cwr_tools.specs.declared.verdicts.ToolFault.{ToolFault}
use Rattle.cwr_tools.specs.Format.Reports.{CountsReaderFault, CountsWriterFault, CountsWritten, ItemLines, ReportsText}
use Rattle.cwr_tools.specs.Format.Verdicts.{IsAnswerTo, JudgesText}
use Rattle.cwr_tools.specs.Steps.Reports.{Reports, StandsAtEnd}
use Rattle.cwr_tools.specs.Steps.Verdicts.{IsReadLast}

-- What is said of a last step: by the verdict, by what was read last, and by what the reader had left before it and has after it, so it
-- is answered, and these words are written.
abbrev pub Saying : Type 1
Saying = Verdict → Option LastRead → Option (List ℕ) → Option (List ℕ) → Result Verdict ToolFault → List ℕ → Type 0

-- After the verdict words were written, of which that is said, and bytes were taken. What was read last is known where it is held.
pub record GoesOn {W : Type 0} (saying : Saying) (holds : Bool) (limits : Limits) (before left after : Option (List ℕ))
    (contents : W → Option (List ℕ)) (between new : W) (verdict : Verdict) (result : Result Verdict ToolFault) : Type 0 where
  pub last : Option LastRead
  pub held : holds ≡ true → IsSomeAnd last (IsReadLast limits before left verdict)
  pub words : List ℕ
  pub written : Appends (contents between) (contents new) words
  pub says : saying verdict last left after result words
  pub more : List ℕ
  pub taken : Consumes left after more
  pub answered : IsAnswerTo verdict result

-- so it is after a verdict; a fault is answered, and nothing more is written or taken
abbrev pub GoesOnAfter : {W : Type 0} → Saying → Bool → Limits → Option (List ℕ) → Option (List ℕ) → Option (List ℕ)
    → (W → Option (List ℕ)) → W → W → Result Verdict ToolFault → Result Verdict ToolFault → Type 0
GoesOnAfter says holds limits before left after contents between new (Ok verdict) result =
    GoesOn says holds limits before left after contents between new verdict result
GoesOnAfter says holds limits before left after contents between new (Err fault) result =
    (result ≡ Err fault) × (after ≡ left) × (new ≡ between)

-- First these lines are written, as a run without a last step does it, and then it goes on. The verdict is that on bytes that are known,
-- unless a device or memory failed; where the writer failed, the fault says how many bytes were written in all. No failure is passed over:
-- a device failed only where that is the answer. After a verdict all that was written was handed on.
pub record RunsOn {R W : Type 0} (of : ItemLines) (stands : List Item → Type 0) (says : Saying) (holds : Bool) (limits : Limits)
    (remaining : R → Option (List ℕ)) (read_failures : R → ℕ) (reader read : R) (contents : W → Option (List ℕ)) (failures : W → ℕ)
    (handed_on : W → Bool) (old new : W) (result : Result Verdict ToolFault) : Type 0 where
  pub between : W
  pub left : Option (List ℕ)
  pub checked : Result Verdict ToolFault
  pub reported : Reports of limits (remaining reader) left contents old between checked
  pub told : ReportsText of limits (remaining reader) left contents old between checked
  pub stood : StandsAtEnd stands limits (remaining reader) left checked
  pub goes_on : GoesOnAfter says holds limits (remaining reader) left (remaining read) contents between new checked result
  pub judged : JudgesText limits (remaining reader) result
  pub counted : CountsWritten contents old new result
  pub reader_failures : CountsReaderFault result (read_failures reader) (read_failures read)
  pub writer_failures : CountsWriterFault result (failures old) (failures new)
  pub all_handed_on : OnOk result (handed_on new ≡ true)
