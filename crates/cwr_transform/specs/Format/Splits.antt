-- How a split ends, by its text, and what it leaves.
use Rattle.std.specs.Prelude.{◌⊎◌, List, [], ℕ, Option, Some, IfSome, Result, Ok, Err}
use Rattle.cwr_files.specs.declared.faults.Fault.{Fault}
use Rattle.cwr_files.specs.declared.faults.Fault.TheVariants as faults
use Rattle.cwr_files.specs.declared.faults.Name.TheVariants.{StandardInput}
use Rattle.cwr_files.specs.Format.Faults.{IsFaultOfPart}
use Rattle.cwr_shape.specs.declared.limits.Limits.{Limits}
use Rattle.cwr_files.specs.Format.Files.{HasCounted, Same, Texts}
use Rattle.cwr_files.specs.Format.Parts.{HoldsParts, LeavesParts, created_parts}
use Rattle.cwr_moments.specs.declared.moments.Moment.{Moment}
use Rattle.cwr_tools.specs.declared.verdicts.SplitReport.{SplitReport}
use Rattle.cwr_tools.specs.declared.verdicts.ToolFault.{ToolFault}
use Rattle.cwr_tools.specs.declared.verdicts.ToolFault.TheVariants as tool_faults
use Rattle.cwr_parts.specs.Format.Told.{SplitsText}
use Rattle.cwr_endings.specs.declared.endings.Status.{Status}
use Rattle.cwr_endings.specs.declared.endings.Status.TheVariants as statuses
use Rattle.cwr_endings.specs.declared.stops.Stop.{Stop}
use Rattle.cwr_endings.specs.declared.stops.Stop.TheVariants as stops
use Rattle.cwr_endings.specs.declared.endings.Wanted.{Wanted}
use Rattle.cwr_endings.specs.Format.Endings.{IsStatusOn}

-- A split of the text ends with the status that the text has, but that each of its files may fail.
abbrev pub EndsAsSplit : Limits → Wanted → Option (List ℕ) → Result Status Stop → Type 0
EndsAsSplit limits wanted input (Ok status) = IfSome input (λ text. IsStatusOn limits wanted text status)
EndsAsSplit limits wanted input (Err stop) = Unit {0}

-- ---- what is left

-- a split of the input into parts of n transactions handed over these, and answered that
abbrev pub SplitsInto : Limits → ℕ → Option (List ℕ) → List (List ℕ) → Result SplitReport ToolFault → Type 0
SplitsInto limits n input parts answer =
    (after : Option (List ℕ)) × SplitsText limits n input after (Some []) (Some parts) answer

-- A run whose split answered that may end so. It ends well only where all was split, and with another status only there, or where the
-- input is refused or truncated.
abbrev pub MayEndAs : Result SplitReport ToolFault → Result Status Stop → Type 0
MayEndAs (Ok report) ending = Unit {0}
MayEndAs (Err fault) (Err stop) = Unit {0}
MayEndAs (Err fault) (Ok statuses.Good) = ⊥
MayEndAs (Err (tool_faults.Refused refusal)) (Ok status) = Unit {0}
MayEndAs (Err (tool_faults.Truncated records)) (Ok status) = Unit {0}
MayEndAs (Err fault) (Ok status) = ⊥

-- where all was split, and it ends with a status, the parts have their names, and nothing else changed
abbrev pub HoldsAll : Result SplitReport ToolFault → Result Status Stop → List ℕ → List (List ℕ) → Texts → Texts → Type 0
HoldsAll (Ok report) (Ok status) prefix parts texts new = HoldsParts prefix parts texts new
HoldsAll answer ending prefix parts texts new = Unit {0}

-- The parts that were handed over have their names, each with its own moment where the first is created at one, and under any other name lies
-- what lay there before. Where a call failed, something may be left of the next part, under a name of what isn't whole.
pub record LeavesSplit (limits : Limits) (n : ℕ) (prefix : List ℕ) (created : Option Moment) (input : Option (List ℕ)) (old now : ℕ)
    (ending : Result Status Stop) (texts new : Texts) : Type 0 where
  pub parts : List (List ℕ)
  pub answer : Result SplitReport ToolFault
  pub split : SplitsInto limits n input parts answer
  pub ends : MayEndAs answer ending
  pub left : LeavesParts prefix (created_parts created parts) old now texts new
  pub all : HoldsAll answer ending prefix (created_parts created parts) texts new

-- What a run leaves that splits its input, where so many failures were counted before it and after it. One that fails may have changed
-- nothing.
abbrev pub LeavesCut : Limits → ℕ → List ℕ → Option Moment → Option (List ℕ) → ℕ → ℕ → Result Status Stop → Texts → Texts → Type 0
LeavesCut limits n prefix created input old now (Ok status) texts new =
    LeavesSplit limits n prefix created input old now (Ok status) texts new
LeavesCut limits n prefix created input old now (Err stop) texts new =
    Same texts new ⊎ LeavesSplit limits n prefix created input old now (Err stop) texts new

-- ---- what failed

-- the input failed, which is counted, or a part did, or it may not be written, or there was no memory
abbrev pub IsFaultOfCut : Fault → ℕ → ℕ → Type 0
IsFaultOfCut (faults.Open StandardInput reason) old now = ⊥
IsFaultOfCut (faults.Open of reason) old now = HasCounted old now
IsFaultOfCut (faults.Read told) old now = HasCounted old now
IsFaultOfCut fault old now = IsFaultOfPart old now fault

-- So it is where a run ends as what failed does that splits its input, where so many failures were counted before it and after it. Of standard
-- output nothing is said here.
abbrev pub FailsToCut : Result Status Stop → ℕ → ℕ → Type 0
FailsToCut (Ok statuses.Fault) old now = ⊥
FailsToCut (Ok status) old now = Unit {0}
FailsToCut (Err stops.Output) old now = Unit {0}
FailsToCut (Err (stops.Fault fault)) old now = IsFaultOfCut fault old now
