-- What stands at the end of a run came in the items before its verdict.
use Rattle.std.proofs.Common.{◌≡◌, ℕ, Bool, List, length, Option, Some, None, sym, ap, subst, ◌∙◌}
use Rattle.std.specs.Prelude.{Result, Ok, Err, IfOk, OnOk}
use Rattle.cwr_devices.specs.declared.sinks.Sink.{Sink}
use Rattle.cwr_shape.specs.declared.limits.Limits.{Limits}
use Rattle.cwr_values.specs.declared.items.Item.{Item}
use Rattle.cwr_values.specs.Format.Values.{TransmissionValue}
use Rattle.cwr_judge.specs.Format.Ends.{IsAccepted}
use Rattle.cwr_judge.specs.Format.Items.{value_items}
use Rattle.cwr_judge.proofs.lemmas.Accepted.{accepted_once}
use Rattle.cwr_decode.specs.declared.readings.ReadFault.{ReadFault}
use Rattle.cwr_decode.specs.declared.readings.ReadFault.TheVariants as read_faults
use Rattle.cwr_decode.specs.Steps.Runs.{HasReadAll}
use Rattle.cwr_decode.proofs.lemmas.ItemsMakeOneTransmission.{items_once}
use Rattle.cwr_decode.proofs.lemmas.ItemsReadSoFar.{all_items, all_taken}
use Rattle.cwr_tools.specs.declared.totals.Totals.{Totals}
use Rattle.cwr_tools.specs.declared.verdicts.Verdict.{Verdict}
use Rattle.cwr_tools.specs.declared.verdicts.Verdict.TheVariants.{Good, Refused, Truncated}
use Rattle.cwr_tools.specs.declared.verdicts.ToolFault.{ToolFault}
use Rattle.cwr_tools.specs.declared.verdicts.ToolFault.TheVariants as tool_faults
use Rattle.cwr_tools.specs.declared.verdicts.ToolFault.TheVariants.{Reader, Writer, Memory, Output, Limit}
use Rattle.cwr_tools.specs.Format.Verdicts.{IsVerdictOf}
use Rattle.cwr_tools.specs.Format.Watching.{StandsAccepted}
use Rattle.cwr_tools.specs.Steps.Verdicts.{IsRightVerdict, StopsAfter}
use Rattle.cwr_tools.specs.Steps.Counts.{IsCount}
use Rattle.cwr_tools.specs.Steps.Reports.{PutsLines, StandsAfter, StandsAtEnd}
use Rattle.cwr_tools.proofs.lemmas.CountedTotals.{good_count}

-- the verdict after all items
pub good_right : (limits : Limits) (before after : Option (List ℕ)) (given : List Item) (c : Totals) (verdict : Verdict)
    → HasReadAll limits before after given → IsCount c given → verdict ≡ Good c.groups c.transactions c.records
    → IsRightVerdict limits before verdict after given
good_right limits before after given c verdict h k e =
    let all = all_items limits before after given h in
    let right : IsRightVerdict limits before (Good c.groups c.transactions c.records) after given = (
      all.value,
      all_taken limits before after given all.value h (λ w whole are. items_once all.value w (sym all.given_are ∙ are)),
      all.given_are,
      good_count c given all.value all.given_are k,
    ) in
    subst (λ (v : Verdict). IsRightVerdict limits before v after given) (sym e) right

-- what stands after the items before a fault stands at the end
pub stands_before : (limits : Limits) (before after : Option (List ℕ)) (given : List Item) (stands : List Item → Type 0)
    (fault : ReadFault) (result : Result Verdict ToolFault) → StopsAfter limits fault before after given
    → IsVerdictOf fault result → stands given → StandsAtEnd stands limits before after result
stands_before limits before after given stands read_faults.Reader result stop e here =
    subst (λ (r : Result Verdict ToolFault). StandsAtEnd stands limits before after r) (sym e) (given, stop, here)
stands_before limits before after given stands (read_faults.Refused refusal) result stop e here =
    subst (λ (r : Result Verdict ToolFault). StandsAtEnd stands limits before after r) (sym e) (given, stop, here)
stands_before limits before after given stands (read_faults.Truncated records) result stop e here =
    subst (λ (r : Result Verdict ToolFault). StandsAtEnd stands limits before after r) (sym e) (given, stop, here)
stands_before limits before after given stands read_faults.Memory result stop e here =
    subst (λ (r : Result Verdict ToolFault). StandsAtEnd stands limits before after r) (sym e) tt

put_stops : {W : Type 0} (contents : W → Option (List ℕ)) (failures : W → ℕ) (take_memory : Bool) (text : List ℕ) (fault : ToolFault)
    (old new : Sink W) (limits : Limits) (before after : Option (List ℕ)) (stands : List Item → Type 0)
    → PutsLines contents failures take_memory text (Err fault) old new → StandsAtEnd stands limits before after (Err fault)
put_stops contents failures take_memory text Memory old new limits before after stands put = tt
put_stops contents failures take_memory text (Writer n) old new limits before after stands put = tt
put_stops contents failures take_memory text Reader old new limits before after stands put = absurd put
put_stops contents failures take_memory text (tool_faults.Refused r) old new limits before after stands put = tt
put_stops contents failures take_memory text (tool_faults.Truncated r) old new limits before after stands put = tt
put_stops contents failures take_memory text Output old new limits before after stands put = tt
put_stops contents failures take_memory text (Limit l) old new limits before after stands put = tt

-- what failed as lines were put tells nothing of it
pub put_tells : {W : Type 0} (contents : W → Option (List ℕ)) (failures : W → ℕ) (take_memory : Bool) (text : List ℕ)
    (fault : ToolFault) (old new : Sink W) (limits : Limits) (before after : Option (List ℕ)) (stands : List Item → Type 0)
    (result : Result Verdict ToolFault) → PutsLines contents failures take_memory text (Err fault) old new → result ≡ Err fault
    → StandsAtEnd stands limits before after result
put_tells contents failures take_memory text fault old new limits before after stands result put e =
    subst (λ (r : Result Verdict ToolFault). StandsAtEnd stands limits before after r) (sym e)
    (put_stops contents failures take_memory text fault old new limits before after stands put)

-- ---- what stands at the end

-- what follows from what stands after the items stands after them too
pub stands_after : (limits : Limits) (before after : Option (List ℕ)) (stands other : List Item → Type 0)
    (result : Result Verdict ToolFault) → ((given : List Item) → stands given → other given)
    → StandsAtEnd stands limits before after result → IfOk result (StandsAfter other limits before after)
stands_after limits before after stands other (Ok verdict) so h = (h.0, h.1, so h.0 h.2)
stands_after limits before after stands other (Err fault) so h = tt

-- where the text is accepted, the items are those of its transmission
accepted_items : (limits : Limits) (before after : Option (List ℕ)) (stands : List Item → Type 0) (verdict : Verdict)
    (given : List Item) → IsRightVerdict limits before verdict after given → stands given → StandsAccepted stands limits before
accepted_items limits None after stands verdict given right here = tt
accepted_items limits (Some text) after stands verdict given right here = λ v n a. by verdict v n a right
  where
    by : (it : Verdict) (v : TransmissionValue) (n : ℕ) → IsAccepted limits text v n
        → IsRightVerdict limits (Some text) it after given → stands (value_items v)
    by (Good groups transactions records) v n a t =
        subst stands (t.2 ∙ ap value_items (accepted_once limits text t.0 v (length t.1.input) n t.1.front.0 a).0) here
    by (Refused refusal) v n a t = absurd (t.0.right.ends.unaccepted v n a)
    by (Truncated records) v n a t = absurd (t.0.right.ends.unaccepted v n a)

pub stands_accepted : (limits : Limits) (before after : Option (List ℕ)) (stands other : List Item → Type 0)
    (result : Result Verdict ToolFault) → ((given : List Item) → stands given → other given)
    → StandsAtEnd stands limits before after result → OnOk result (StandsAccepted other limits before)
stands_accepted limits before after stands other (Ok verdict) so h =
    accepted_items limits before after other verdict h.0 h.1 (so h.0 h.2)
stands_accepted limits before after stands other (Err fault) so h = tt
