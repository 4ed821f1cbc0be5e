-- A split ends as its text does.
use Rattle.std.proofs.Common.{◌≡◌, ℕ, List, [], Bool, false, Option, Some, None, refl, sym, subst, inl, inr, ◌∙◌}
use Rattle.std.specs.Prelude.{Result, Ok, Err, OnOk}
use Rattle.cwr_shape.specs.declared.limits.Limits.{Limits}
use Rattle.cwr_judge.specs.declared.refusals.Refusal.{Refusal}
use Rattle.cwr_tools.specs.declared.verdicts.SplitReport.{SplitReport}
use Rattle.cwr_tools.specs.declared.verdicts.ToolFault.{ToolFault}
use Rattle.cwr_tools.specs.declared.verdicts.ToolFault.TheVariants as tool_faults
use Rattle.cwr_tools.specs.declared.finding_counts.FindingCount.{FindingCount}
use Rattle.cwr_tools.specs.declared.viewing.FindingView.{FindingView}
use Rattle.cwr_tools.specs.Format.Viewing.{SeesText}
use Rattle.cwr_tools.specs.Format.Watching.{AreFindingsIn, CountsAccepted, is_reached}
use Rattle.cwr_parts.specs.Format.Splitting.{JudgesSplit}
use Rattle.cwr_endings.specs.declared.endings.Look.{Look}
use Rattle.cwr_endings.specs.declared.endings.Status.{Status}
use Rattle.cwr_endings.specs.declared.endings.Status.TheVariants as statuses
use Rattle.cwr_endings.specs.declared.endings.Wanted.{Wanted}
use Rattle.cwr_files.specs.declared.faults.Told.{Told}
use Rattle.cwr_files.specs.declared.faults.Fault.{Fault}
use Rattle.cwr_endings.specs.declared.stops.Stop.{Stop}
use Rattle.cwr_endings.specs.Format.Endings.{FindsFrom}
use Rattle.cwr_transform.specs.Format.Splits.{EndsAsSplit}
use Rattle.cwr_endings.specs.Steps.Looks.{IsLook, good_status}
use Rattle.cwr_transform.specs.Steps.Splits.{JudgesCut, SplitEndsAs}
use Rattle.cwr_endings.proofs.lemmas.StatusesOnTexts.{status_good}

-- what was split is looked after
pub cut_judged : (limits : Limits) (before mid after : Option (List ℕ)) (report : SplitReport) (look : Look)
    → JudgesSplit limits before mid (Ok report) → IsLook mid after look → JudgesCut limits before (Ok report) look
cut_judged limits None mid after report look h looked = tt
cut_judged limits (Some text) mid after report look h looked =
    (h.0, h.1, h.2, after, subst (λ (m : Option (List ℕ)). IsLook m after look) h.3 looked)

-- a fault is right of the text
pub cut_failed : (limits : Limits) (before mid : Option (List ℕ)) (fault : ToolFault) (look : Look)
    → JudgesSplit limits before mid (Err fault) → JudgesCut limits before (Err fault) look
cut_failed limits before mid tool_faults.Reader look h = tt
cut_failed limits before mid tool_faults.Memory look h = tt
cut_failed limits before mid (tool_faults.Writer n) look h = tt
cut_failed limits before mid tool_faults.Output look h = tt
cut_failed limits before mid (tool_faults.Refused r) look h = h
cut_failed limits before mid (tool_faults.Truncated n) look h = h
cut_failed limits before mid (tool_faults.Limit l) look h = h

-- ---- the findings

-- where memory was never refused, those that were counted are those of the transmission
pub findings_seen : (limits : Limits) (before : Option (List ℕ)) (old new : FindingView) → AreFindingsIn old.count []
    → new.lacks_memory ≡ false
    → SeesText limits (λ view items. view.lacks_memory ≡ false → AreFindingsIn view.count items) before old new
    → CountsAccepted limits before new.count
findings_seen limits None old new none had seen = tt
findings_seen limits (Some text) old new none had seen = λ v n a. seen v n a [] (λ _. none) had

-- ---- the end

ends_good : (limits : Limits) (wanted : Wanted) (before : Option (List ℕ)) (report : SplitReport) (look : Look) (count : FindingCount)
    (found : Bool) (status : Status) → JudgesCut limits before (Ok report) look → CountsAccepted limits before count
    → found ≡ is_reached wanted.fail_on count.worst → good_status wanted look found ≡ Some status
    → EndsAsSplit limits wanted before (Ok status)
ends_good limits wanted None report look count found status judged counted is e = tt
ends_good limits wanted (Some text) report look count found status judged counted is e =
    status_good FindsFrom limits wanted text judged.0 judged.1 look found status judged.2
    (sym (is ∙ (counted judged.0 judged.1 judged.2).worst wanted.fail_on)) judged.3 judged.4 e

ends_refused : (limits : Limits) (wanted : Wanted) (before : Option (List ℕ)) (r : Refusal)
    → JudgesSplit limits before before (Err (tool_faults.Refused r)) → EndsAsSplit limits wanted before (Ok statuses.Refused)
ends_refused limits wanted None r judged = tt
ends_refused limits wanted (Some text) r judged = inl (r, judged)

ends_truncated : (limits : Limits) (wanted : Wanted) (before : Option (List ℕ)) (n : ℕ)
    → JudgesSplit limits before before (Err (tool_faults.Truncated n)) → EndsAsSplit limits wanted before (Ok statuses.Refused)
ends_truncated limits wanted None n judged = tt
ends_truncated limits wanted (Some text) n judged = inr (inl (n, judged))

pub split_ends : (limits : Limits) (wanted : Wanted) (before : Option (List ℕ)) (input : Told) (made : Fault)
    (outcome : Result SplitReport ToolFault) (look : Look) (count : FindingCount) (found : Bool) (ending : Result Status Stop)
    → JudgesCut limits before outcome look → OnOk outcome (CountsAccepted limits before count)
    → found ≡ is_reached wanted.fail_on count.worst → SplitEndsAs input made outcome (good_status wanted look found) ending
    → EndsAsSplit limits wanted before ending
split_ends limits wanted before input made (Ok report) look count found ending judged counted is ends =
    by (good_status wanted look found) refl ends
  where
    by : (o : Option Status) → good_status wanted look found ≡ o → SplitEndsAs input made (Ok report) o ending
        → EndsAsSplit limits wanted before ending
    by None e same = subst (EndsAsSplit limits wanted before) (sym same) tt
    by (Some status) e same = subst (EndsAsSplit limits wanted before) (sym same)
        (ends_good limits wanted before report look count found status judged counted is e)
split_ends limits wanted before input made (Err (tool_faults.Writer n)) look count found ending judged counted is ends =
    subst (EndsAsSplit limits wanted before) (sym ends) tt
split_ends limits wanted before input made (Err tool_faults.Reader) look count found ending judged counted is ends =
    subst (EndsAsSplit limits wanted before) (sym ends) tt
split_ends limits wanted before input made (Err tool_faults.Memory) look count found ending judged counted is ends =
    subst (EndsAsSplit limits wanted before) (sym ends) tt
split_ends limits wanted before input made (Err tool_faults.Output) look count found ending judged counted is ends =
    subst (EndsAsSplit limits wanted before) (sym ends) tt
split_ends limits wanted before input made (Err (tool_faults.Refused r)) look count found ending judged counted is ends =
    subst (EndsAsSplit limits wanted before) (sym ends) (ends_refused limits wanted before r judged)
split_ends limits wanted before input made (Err (tool_faults.Truncated n)) look count found ending judged counted is ends =
    subst (EndsAsSplit limits wanted before) (sym ends) (ends_truncated limits wanted before n judged)
split_ends limits wanted before input made (Err (tool_faults.Limit l)) look count found ending judged counted is ends = absurd judged
