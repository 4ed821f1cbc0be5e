-- What is told of a text says its verdict, and all of a text that begins with a transmission.
use Rattle.std.proofs.Common.{◌≡◌, ℕ, List, Option, Some, None, ap, ap₂, subst, ◌∙◌}
use Rattle.std.specs.Prelude.{Result, Ok, Err, IfOk}
use Rattle.std.specs.Io.KnownBytes.{Appends}
use Rattle.cwr_shape.specs.declared.limits.Limits.{Limits}
use Rattle.cwr_values.specs.declared.items.Item.{Item}
use Rattle.cwr_values.specs.Format.Values.{TransmissionValue}
use Rattle.cwr_judge.specs.Format.Ends.{IsAccepted}
use Rattle.cwr_judge.specs.Format.Items.{value_items}
use Rattle.cwr_judge.proofs.lemmas.Accepted.{accepted_once}
use Rattle.cwr_tools.specs.declared.verdicts.Verdict.{Verdict}
use Rattle.cwr_tools.specs.declared.verdicts.Verdict.TheVariants.{Good, Refused, Truncated}
use Rattle.cwr_tools.specs.declared.verdicts.ToolFault.{ToolFault}
use Rattle.cwr_tools.specs.declared.verdicts.ToolFault.TheVariants as faults
use Rattle.cwr_tools.specs.Format.Texts.{good_verdict}
use Rattle.cwr_tools.specs.Format.Verdicts.{IsVerdictAfter, IsVerdictOn, JudgesText}
use Rattle.cwr_tools.specs.Format.Reports.{ItemLines, JudgesAccepted, ReportsText, text_on}

-- the verdict that is told of a text that is accepted is its transmission's, after that one's items
pub accepted_verdict : (limits : Limits) (text : List ℕ) (verdict : Verdict) (given : List Item) (v : TransmissionValue) (n : ℕ)
    → IsVerdictAfter limits text verdict given → IsAccepted limits text v n
    → (verdict ≡ good_verdict v) × (given ≡ value_items v)
accepted_verdict limits text (Good groups transactions records) given v n t a =
    let same = accepted_once limits text t.0 v t.1 n t.2 a in (t.3 ∙ ap good_verdict same.0, t.4 ∙ ap value_items same.0)
accepted_verdict limits text (Refused refusal) given v n t a = absurd (t.0.unaccepted v n a)
accepted_verdict limits text (Truncated records) given v n t a = absurd (t.0.unaccepted v n a)

judges_accepted : {W : Type 0} (of : ItemLines) (limits : Limits) (before after : Option (List ℕ))
    (contents : W → Option (List ℕ)) (old new : W) (verdict : Verdict)
    → ReportsText of limits before after contents old new (Ok verdict)
    → JudgesAccepted of limits before after contents old new verdict
judges_accepted of limits None after contents old new verdict h = tt
judges_accepted of limits (Some text) after contents old new verdict h = λ v n a.
    let is = accepted_verdict limits text verdict h.0 v n h.1 a in (
      is.0,
      h.2 v n a,
      subst (Appends (contents old) (contents new)) (ap₂ (λ (items : List Item) (it : Verdict). text_on of items it) is.1 is.0) h.3,
    )

pub verdict_on : (limits : Limits) (text : List ℕ) (verdict : Verdict) (given : List Item) → IsVerdictAfter limits text verdict given
    → IsVerdictOn limits text verdict
verdict_on limits text (Good groups transactions records) given t = (t.0, t.1, t.2, t.3)
verdict_on limits text (Refused refusal) given t = t.0
verdict_on limits text (Truncated records) given t = t.0

-- ---- the same of what a run answers

pub judged_text : {W : Type 0} (of : ItemLines) (limits : Limits) (before after : Option (List ℕ))
    (contents : W → Option (List ℕ)) (old new : W) (result : Result Verdict ToolFault)
    → ReportsText of limits before after contents old new result → JudgesText limits before result
judged_text of limits None after contents old new (Ok verdict) h = tt
judged_text of limits (Some text) after contents old new (Ok verdict) h = verdict_on limits text verdict h.0 h.1
judged_text of limits before after contents old new (Err faults.Reader) h = tt
judged_text of limits before after contents old new (Err (faults.Writer written)) h = tt
judged_text of limits before after contents old new (Err faults.Memory) h = tt
judged_text of limits before after contents old new (Err (faults.Refused refusal)) h = absurd h
judged_text of limits before after contents old new (Err (faults.Truncated records)) h = absurd h
judged_text of limits before after contents old new (Err (faults.Limit limit)) h = absurd h
judged_text of limits before after contents old new (Err faults.Output) h = absurd h

pub accepted_text : {W : Type 0} (of : ItemLines) (limits : Limits) (before after : Option (List ℕ))
    (contents : W → Option (List ℕ)) (old new : W) (result : Result Verdict ToolFault)
    → ReportsText of limits before after contents old new result
    → IfOk result (JudgesAccepted of limits before after contents old new)
accepted_text of limits before after contents old new (Ok verdict) h =
    judges_accepted of limits before after contents old new verdict h
accepted_text of limits before after contents old new (Err fault) h = tt
