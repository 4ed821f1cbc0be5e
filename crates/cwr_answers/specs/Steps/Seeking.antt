-- Acknowledgements while they are read for what became of transactions.
use Rattle.std.specs.Prelude.{◌≡◌, ℕ, Bool, false, List, [], ◌∷◌, Option, None, Result, Ok, Err, IfSome}
use Rattle.std.specs.List.{AllZip, flat_map}
use Rattle.cwr_shape.specs.declared.limits.Limits.{Limits}
use Rattle.cwr_values.specs.Format.Values.{TransmissionValue}
use Rattle.cwr_judge.specs.Format.Ends.{IsAccepted}
use Rattle.cwr_judge.specs.Format.Items.{value_items}
use Rattle.cwr_tools.specs.declared.verdicts.ToolFault.{ToolFault}
use Rattle.cwr_tools.specs.declared.verdicts.ToolFault.TheVariants as tool_faults
use Rattle.cwr_tools.specs.declared.verdicts.Verdict.{Verdict}
use Rattle.cwr_delivery.specs.Steps.Deliveries.{Held}
use Rattle.cwr_acks.specs.Format.AckLines.{Matched, matched_after}
use Rattle.cwr_acks.specs.Steps.AckSteps.{IsKept}
use Rattle.cwr_files.specs.Format.Files.{Texts}
use Rattle.cwr_endings.specs.declared.endings.Look.{Look}
use Rattle.cwr_endings.specs.declared.endings.Look.TheVariants as looks
use Rattle.cwr_endings.specs.declared.endings.Status.{Status}
use Rattle.cwr_endings.specs.declared.endings.Status.TheVariants as statuses
use Rattle.cwr_endings.specs.declared.judgements.Judgement.{Judgement}
use Rattle.cwr_endings.specs.declared.stops.Stop.{Stop}
use Rattle.cwr_endings.specs.Steps.Looks.{judgement_in}
use Rattle.cwr_answers.specs.Format.Answered.{IsAcceptedAt}

-- how a transmission is judged of which a failed look is a fault
abbrev pub judged_by : Bool → Result Verdict ToolFault → Look → Result Judgement ToolFault
judged_by whole outcome looks.Failed = Err tool_faults.Reader
judged_by whole outcome look = judgement_in (record { whole = whole; fail_on = None }) outcome look false

-- the text is accepted as a transmission, and what is kept is that of what was read before and of its acknowledgements
pub record ReadsAnswers (limits : Limits) (left : Option (List ℕ)) (matched : Option Matched) (held : Option Held) : Type 0 where
  pub value : TransmissionValue
  pub taken : IfSome left (λ text. (n : ℕ) × IsAccepted limits text value n)
  pub kept : IsKept held (matched_after matched (value_items value)) []

-- so it is where the transmission was judged good
abbrev pub ReadsIfGood : Limits → Option (List ℕ) → Option Matched → Option Held → Result Judgement ToolFault → Type 0
ReadsIfGood limits left matched held (Ok judgement) = judgement.status ≡ statuses.Good → ReadsAnswers limits left matched held
ReadsIfGood limits left matched held (Err fault) = Unit {0}

-- so it is of the texts of several names, one after another
pub record ReadsEach (limits : Limits) (texts : Option Texts) (standard : Option (List ℕ)) (names : List (List ℕ)) (matched : Option Matched)
    (held : Option Held) : Type 0 where
  pub answers : List TransmissionValue
  pub were_read : AllZip (IsAcceptedAt limits texts standard) names answers
  pub kept : IsKept held (matched_after matched (flat_map value_items answers)) []

-- so it is where the run over them ends well
abbrev pub ReadsAllIfGood : Limits → Option Texts → Option (List ℕ) → List (List ℕ) → Option Matched → Option Held → Result Status Stop
    → Type 0
ReadsAllIfGood limits texts standard names matched held (Ok status) =
    status ≡ statuses.Good → ReadsEach limits texts standard names matched held
ReadsAllIfGood limits texts standard names matched held (Err stop) = Unit {0}

-- so it is of one more, where the status was good before it and is so after it
abbrev pub ReadsNextIfGood : Limits → Option Texts → Option (List ℕ) → List ℕ → Option Matched → Option Held → Status → Status → Type 0
ReadsNextIfGood limits texts standard name matched held before now =
    now ≡ statuses.Good → (before ≡ statuses.Good) × ReadsEach limits texts standard (name ∷ []) matched held
