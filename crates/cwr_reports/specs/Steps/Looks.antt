-- What was seen of a transmission, and after it.
use Rattle.std.specs.Prelude.{ℕ, Bool, true, false, List, drop, Option, Some, None, IfSome, Result, Ok, Err}
use Rattle.cwr_shape.specs.declared.limits.Limits.{Limits}
use Rattle.cwr_shape.specs.declared.reasons.Level.{Level}
use Rattle.cwr_values.specs.Format.Values.{TransmissionValue}
use Rattle.cwr_judge.specs.Format.Ends.{IsAccepted}
use Rattle.cwr_tools.specs.declared.verdicts.ToolFault.{ToolFault}
use Rattle.cwr_tools.specs.declared.verdicts.ToolFault.TheVariants as tool_faults
use Rattle.cwr_tools.specs.Format.Watching.{StandsAccepted}
use Rattle.cwr_causes.specs.declared.trailing.Trailing.{Trailing}
use Rattle.cwr_endings.specs.declared.endings.Look.{Look}
use Rattle.cwr_endings.specs.declared.endings.Look.TheVariants as looks
use Rattle.cwr_endings.specs.declared.endings.Status.{Status}
use Rattle.cwr_endings.specs.declared.endings.Status.TheVariants as statuses
use Rattle.cwr_endings.specs.declared.endings.Wanted.{Wanted}
use Rattle.cwr_endings.specs.declared.stops.Stop.{Stop}
use Rattle.cwr_endings.specs.Format.Endings.{IsStatusBy}
use Rattle.cwr_endings.specs.Steps.Looks.{IsLook}
use Rattle.cwr_endings.specs.declared.judgements.Judgement.{Judgement}
use Rattle.cwr_reports.specs.Format.Endings.{Counts, EndsOnInput}
use Rattle.cwr_reports.specs.declared.tellings.Telling.{Telling}
use Rattle.cwr_reports.specs.declared.tellings.Telling.TheVariants as tellings

-- what stands after the transmission was read, or the input failed, where the text is accepted
abbrev pub LooksAfter : Limits → Option (List ℕ) → Look → Type 0
LooksAfter limits before look =
    IfSome before (λ text. (v : TransmissionValue) (n : ℕ) → IsAccepted limits text v n
    → (after : Option (List ℕ)) × IsLook (Some (drop n text)) after look)

-- what was found, if it was looked for
abbrev pub look_of : Option Trailing → Look
look_of None = looks.Unasked
look_of (Some trailing) = looks.Found trailing

-- the levels of the findings of a transmission are seen, and with advice those of all that is told
abbrev pub tells_findings : Telling → Bool
tells_findings tellings.Findings = true
tells_findings (tellings.Explained name) = true
tells_findings tellings.Records = true
tells_findings (tellings.Advice all repeated) = true
tells_findings telling = false

-- where a text is accepted, something that counts of its transmission has the level or a worse one, or nothing has
abbrev pub SeesFound : Option (Bool × ℕ) → Option Level → Limits → Option (List ℕ) → Bool → Type 0
SeesFound advice from limits before found = StandsAccepted (λ given. Counts advice from given found) limits before

-- an input whose bytes are known has the status on them, or a device or memory failed
abbrev pub JudgesOn : Option (Bool × ℕ) → Limits → Wanted → Option (List ℕ) → Result Judgement ToolFault → Type 0
JudgesOn advice limits wanted before (Ok judgement) =
    IfSome before (λ text. IsStatusBy (Counts advice) limits wanted text judgement.status)
JudgesOn advice limits wanted before (Err tool_faults.Reader) = Unit {0}
JudgesOn advice limits wanted before (Err (tool_faults.Writer written)) = Unit {0}
JudgesOn advice limits wanted before (Err tool_faults.Memory) = Unit {0}
JudgesOn advice limits wanted before (Err fault) = ⊥

-- an input that could be read is good or refused
abbrev pub IsRead : Status → Type 0
IsRead statuses.Good = Unit {0}
IsRead statuses.Refused = Unit {0}
IsRead statuses.CommandLine = ⊥
IsRead statuses.Fault = ⊥

-- so it is where it was judged
abbrev pub IsJudged : Judgement → Type 0
IsJudged judgement = IsRead judgement.status

-- what was read of an input, with its status, is as a run that ends so
abbrev pub JudgesRead : {A B : Type 0} → Option (Bool × ℕ) → Limits → Wanted → Option (List ℕ) → Result (Judgement × A × B) Stop → Type 0
JudgesRead advice limits wanted before (Ok read) = EndsOnInput advice limits wanted before (Ok read.0.status)
JudgesRead advice limits wanted before (Err stop) = EndsOnInput advice limits wanted before (Err stop)
