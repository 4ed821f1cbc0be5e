-- How a split comes to its end: what it answered, what was seen after its transmission, the status of that, and what lies under names then.
use Rattle.std.specs.Prelude.{◌≡◌, ℕ, Bool, true, List, drop, Option, Some, None, IfSome, OnOk, Result, Ok, Err}
use Rattle.cwr_moments.specs.declared.moments.Moment.{Moment}
use Rattle.cwr_shape.specs.declared.limits.Limits.{Limits}
use Rattle.cwr_values.specs.Format.Values.{TransmissionValue}
use Rattle.cwr_judge.specs.Format.Ends.{IsAccepted}
use Rattle.cwr_tools.specs.declared.verdicts.SplitReport.{SplitReport}
use Rattle.cwr_tools.specs.declared.verdicts.ToolFault.{ToolFault}
use Rattle.cwr_tools.specs.declared.verdicts.ToolFault.TheVariants.{Memory, Output, Reader, Writer}
use Rattle.cwr_parts.specs.Format.Splitting.{JudgesSplit}
use Rattle.cwr_parts.specs.Format.Told.{SplitsText}
use Rattle.cwr_files.specs.Format.Files.{Texts}
use Rattle.cwr_files.specs.Format.Parts.{HoldsParts, LeavesParts, created_parts}
use Rattle.cwr_transform.specs.Format.Splits.{SplitsInto}
use Rattle.cwr_endings.specs.declared.endings.Look.{Look}
use Rattle.cwr_endings.specs.declared.endings.Status.{Status}
use Rattle.cwr_endings.specs.declared.stops.Stop.{Stop}
use Rattle.cwr_endings.specs.declared.stops.Stop.TheVariants as stops
use Rattle.cwr_files.specs.declared.faults.Told.{Told}
use Rattle.cwr_files.specs.declared.faults.Fault.{Fault}
use Rattle.cwr_files.specs.declared.faults.Fault.TheVariants as faults
use Rattle.cwr_endings.specs.Format.Endings.{EndsAfterFault}
use Rattle.cwr_endings.specs.Steps.Looks.{CountsLook, IsLook}
use Rattle.cwr_devices.specs.Format.Failures.{one_more_failure}

-- all of an accepted transmission is split, and what stands after it is looked at; else the fault is right of the text
abbrev pub JudgesCut : Limits → Option (List ℕ) → Result SplitReport ToolFault → Look → Type 0
JudgesCut limits before (Ok report) look =
    IfSome before (λ text. (v : TransmissionValue) × (n : ℕ) × IsAccepted limits text v n × (after : Option (List ℕ))
    × IsLook (Some (drop n text)) after look)
JudgesCut limits before (Err fault) look = JudgesSplit limits before before (Err fault)

-- the run has the status, or the input failed where nothing may follow; else it ends as the fault does, and the writer of a part tells
-- which part that is
abbrev pub SplitEndsAs : Told → Fault → Result SplitReport ToolFault → Option Status → Result Status Stop → Type 0
SplitEndsAs input made (Ok report) (Some status) ending = ending ≡ Ok status
SplitEndsAs input made (Ok report) None ending = ending ≡ Err (stops.Fault (faults.Read input))
SplitEndsAs input made (Err (Writer written)) status ending = ending ≡ Err (stops.Fault made)
SplitEndsAs input made (Err fault) status ending = EndsAfterFault input (stops.Fault made) (stops.Fault made) (Some fault) ending

-- What is told of what the split answered: that, but want of memory where findings couldn't be counted, and that a part failed where not all were
-- made that were asked for.
abbrev pub IsToldAs : Result SplitReport ToolFault → Result SplitReport ToolFault → Type 0
IsToldAs (Ok report) (Err Memory) = Unit {0}
IsToldAs (Ok report) (Err Output) = Unit {0}
IsToldAs answer told = told ≡ answer

-- what was handed over of the input, where that is told
abbrev pub HandsOver : Limits → ℕ → Option (List ℕ) → Option (List (List ℕ)) → Option (List (List ℕ)) → Result SplitReport ToolFault → Type 0
HandsOver limits n before old new told =
    (answer : Result SplitReport ToolFault) × (after : Option (List ℕ)) × SplitsText limits n before after old new answer
    × IsToldAs answer told

-- what it leaves
pub record LeavesTold (limits : Limits) (n : ℕ) (prefix : List ℕ) (created : Option Moment) (input : Option (List ℕ)) (old now : ℕ)
    (told : Result SplitReport ToolFault) (texts new : Texts) : Type 0 where
  pub parts : List (List ℕ)
  pub answer : Result SplitReport ToolFault
  pub split : SplitsInto limits n input parts answer
  pub is_told : IsToldAs answer told
  pub left : LeavesParts prefix (created_parts created parts) old now texts new
  pub all : OnOk told (HoldsParts prefix (created_parts created parts) texts new)

-- what lay under names at first, where that is known, and nothing was being written
abbrev pub texts_before : Option (List ℕ) → Option Texts → Option Texts
texts_before (Some name) held = None
texts_before None held = held

-- ---- what is counted

-- the reader's failures count one more where its fault is answered, or it failed after the transmission
abbrev pub CountsCut : Result SplitReport ToolFault → Look → ℕ → ℕ → Type 0
CountsCut (Ok report) look old now = CountsLook look old now
CountsCut (Err Reader) look old now = now ≡ one_more_failure old
CountsCut (Err fault) look old now = Unit {0}

-- not all parts were made that were asked for
abbrev pub unless_stopped : Bool → Result SplitReport ToolFault → Result SplitReport ToolFault
unless_stopped true (Ok report) = Err Output
unless_stopped stopped outcome = outcome
