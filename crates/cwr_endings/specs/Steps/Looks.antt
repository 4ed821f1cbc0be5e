-- What was seen after a transmission, and the status of a run by that.
use Rattle.std.specs.Prelude.{◌≡◌, ℕ, Bool, true, false, not, nat_lt, ◌||◌, List, Option, Some, None, Result, Ok, Err, if◌then◌else◌}
use Rattle.cwr_devices.specs.Format.Failures.{one_more_failure}
use Rattle.cwr_tools.specs.declared.verdicts.Verdict.{Verdict}
use Rattle.cwr_tools.specs.declared.verdicts.Verdict.TheVariants.{Good, Refused, Truncated}
use Rattle.cwr_tools.specs.declared.verdicts.ToolFault.{ToolFault}
use Rattle.cwr_tools.specs.declared.verdicts.ToolFault.TheVariants as tool_faults
use Rattle.cwr_causes.specs.declared.trailing.Trailing.{Trailing}
use Rattle.cwr_causes.specs.Format.Trailing.{IsTrailing}
use Rattle.cwr_endings.specs.declared.endings.Look.{Look}
use Rattle.cwr_endings.specs.declared.endings.Look.TheVariants as looks
use Rattle.cwr_endings.specs.declared.endings.Status.{Status}
use Rattle.cwr_endings.specs.declared.endings.Status.TheVariants as statuses
use Rattle.cwr_endings.specs.declared.endings.Wanted.{Wanted}
use Rattle.cwr_endings.specs.declared.judgements.Judgement.{Judgement}

-- bytes stand after a transmission
abbrev pub follows : Trailing → Bool
follows trailing = nat_lt 0 trailing.bytes || not trailing.is_all

-- the status of a good verdict, where nothing may follow the transmission: none where that can't be read
abbrev pub status_after : Look → Option Status
status_after (looks.Found trailing) = if follows trailing then Some statuses.Refused else Some statuses.Good
status_after looks.Failed = None
status_after looks.Unasked = Some statuses.Good

abbrev pub whole_status : Bool → Look → Option Status
whole_status whole look = if whole then status_after look else Some statuses.Good

-- the status of a good verdict, where a finding is unwanted or none is
abbrev pub good_status : Wanted → Look → Bool → Option Status
good_status wanted look true = Some statuses.Refused
good_status wanted look false = whole_status wanted.whole look

-- the status of a verdict
abbrev pub status_in : Wanted → Verdict → Look → Bool → Option Status
status_in wanted (Good groups transactions records) look found = good_status wanted look found
status_in wanted (Refused refusal) look found = Some statuses.Refused
status_in wanted (Truncated records) look found = Some statuses.Refused

-- what the input has left was read, or it failed
abbrev pub IsLook : Option (List ℕ) → Option (List ℕ) → Look → Type 0
IsLook left after (looks.Found trailing) = IsTrailing left after trailing
IsLook left after looks.Failed = Unit {0}
IsLook left after looks.Unasked = ⊥

-- a look at what follows counts one more failure where it failed, and else none
abbrev pub CountsLook : Look → ℕ → ℕ → Type 0
CountsLook looks.Failed old new = new ≡ one_more_failure old
CountsLook look old new = new ≡ old

-- what the input has left was read, or it failed, where the verdict is good
abbrev pub LooksOnce : Option (List ℕ) → Option (List ℕ) → Result Verdict ToolFault → Look → Type 0
LooksOnce left after (Ok (Good groups transactions records)) look = IsLook left after look
LooksOnce left after outcome look = Unit {0}

-- a verdict with its status, or the input's fault where it has none
abbrev pub judged_with : Verdict → Look → Option Status → Result Judgement ToolFault
judged_with verdict look (Some status) = Ok (record { verdict = verdict; look = look; status = status })
judged_with verdict look None = Err tool_faults.Reader

-- what is made of an input with that outcome
abbrev pub judgement_in : Wanted → Result Verdict ToolFault → Look → Bool → Result Judgement ToolFault
judgement_in wanted (Ok verdict) look found = judged_with verdict look (status_in wanted verdict look found)
judgement_in wanted (Err fault) look found = Err fault
