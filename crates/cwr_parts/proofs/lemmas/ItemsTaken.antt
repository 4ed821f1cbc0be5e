-- A split takes an item: what it holds is then that of the next stage, and a part that is whole was handed over.
use Rattle.std.proofs.Common.{◌≡◌, ℕ, List, Option, Some, None, refl, sym, ap, subst, ◌∙◌}
use Rattle.std.specs.Prelude.{Result, Ok, Err}
use Rattle.cwr_devices.specs.Format.Failures.{one_more_failure}
use Rattle.cwr_lines.specs.Format.Records.{RecordValue}
use Rattle.cwr_shape.specs.Format.Ranges.{LimitValues}
use Rattle.cwr_values.specs.declared.items.Item.{Item}
use Rattle.cwr_values.specs.declared.items.Item.TheVariants.{Opened, GroupOpened, Transaction, GroupClosed, Ended}
use Rattle.cwr_parts.specs.declared.split_output.SplitOutput.{SplitOutput}
use Rattle.cwr_parts.specs.declared.splitting.Splitting.{Splitting}
use Rattle.cwr_tools.specs.declared.verdicts.ToolFault.{ToolFault}
use Rattle.cwr_tools.specs.declared.verdicts.ToolFault.TheVariants as tool_faults
use Rattle.cwr_parts.specs.Steps.SplitOutputs.{FailsWith, HoldsOutput, Told, open_failures}
use Rattle.cwr_parts.specs.Steps.SplitStages.{open_items}
use Rattle.cwr_parts.specs.Steps.SplitItems.{MayTake, TakesItem}
use Rattle.cwr_parts.specs.Steps.SplitSteps.{AddsTransaction, EndsGroup, FailsOpen, FinishesOutput, MayAddTransaction}
use Rattle.cwr_parts.specs.Steps.SplitSteps.{MayEndGroup, MayFinish}
use Rattle.cwr_parts.proofs.lemmas.EndsTaken.{end_taken, foot_taken, may_end_group, may_finish}
use Rattle.cwr_parts.proofs.lemmas.HeadsTaken.{head_taken, opening_taken}
use Rattle.cwr_parts.proofs.lemmas.TransactionsTaken.{may_add, transaction_taken}

pub may_add_item : {O W : Type 0} (told : Told O W) (item : Item)
    (t : List RecordValue) (s : Splitting W) (now : O) → item ≡ Transaction t → MayTake told item s now
    → MayAddTransaction told item s now
may_add_item told item t s now e =
    subst (λ (i : Item). MayTake told i s now → MayAddTransaction told i s now) (sym e)
    (may_add told t s now)

pub may_end_item : {O W : Type 0} (told : Told O W) (item : Item)
    (r : RecordValue) (s : Splitting W) (now : O) → item ≡ GroupClosed r → MayTake told item s now → MayEndGroup
    told.contents s.output
may_end_item told item r s now e may =
    may_end_group told r s now (subst (λ (i : Item). MayTake told i s now) e may)

pub may_finish_item : {O W : Type 0} (told : Told O W) (item : Item)
    (s : Splitting W) (now : O) → item ≡ Ended → MayTake told item s now → MayFinish told s
    now
may_finish_item told item s now e may =
    may_finish told s now (subst (λ (i : Item). MayTake told i s now) e may)

pub takes_opening : {O W : Type 0} (told : Told O W) (item : Item)
    (r : RecordValue) (s : Splitting W) (now : O) (u : Unit {0}) → item ≡ Opened r → TakesItem told item (Ok u)
    s (record s { opening = Some item }) now now
takes_opening told item r s now u e =
    subst (λ (i : Item). TakesItem told i (Ok u) s (record s { opening = Some i }) now now) (sym e)
    (opening_taken told r s now)

pub takes_head : {O W : Type 0} (told : Told O W) (item : Item)
    (r : RecordValue) (s : Splitting W) (now : O) (u : Unit {0}) → item ≡ GroupOpened r → TakesItem told item
    (Ok u) s (record s { head = Some item }) now now
takes_head told item r s now u e =
    subst (λ (i : Item). TakesItem told i (Ok u) s (record s { head = Some i }) now now) (sym e)
    (head_taken told r s now)

pub takes_transaction : {O W : Type 0} (told : Told O W) (item : Item)
    (t : List RecordValue) (s new : Splitting W) (now after : O) (result : Result (Unit {0}) ToolFault) → item ≡ Transaction t
    → AddsTransaction told item result s new now after
    → TakesItem told item result s new now after
takes_transaction told item t s new now after (Ok u) e done =
    subst (λ (i : Item). AddsTransaction told i (Ok u) s new now after → TakesItem told i
    (Ok u) s new now after) (sym e) (transaction_taken told t u s new now after) done
takes_transaction told item t s new now after (Err fault) e done = done

-- a writer that fails is counted once it is given up
writer_failed : {O W : Type 0} (told : Told O W) (old new : Option (SplitOutput W)) (now : O) (fault : ToolFault)
    → open_failures told.writer_failures old ≡ 0 → FailsOpen told.writer_failures fault old new
    → FailsWith told fault (open_failures told.writer_failures new) now now
writer_failed told old new now (tool_faults.Writer n) quiet h =
    subst (λ (k : ℕ). FailsWith told (tool_faults.Writer n) k now now) (sym (h ∙ ap one_more_failure quiet))
    (record { is = tt; texts = refl; failed = refl; given_up = refl })
writer_failed told old new now tool_faults.Reader quiet h = absurd h
writer_failed told old new now tool_faults.Memory quiet h = absurd h
writer_failed told old new now (tool_faults.Refused r) quiet h = absurd h
writer_failed told old new now (tool_faults.Truncated r) quiet h = absurd h
writer_failed told old new now tool_faults.Output quiet h = absurd h
writer_failed told old new now (tool_faults.Limit l) quiet h = absurd h

quiet_output : {W : Type 0} (contents : W → Option (List ℕ)) (failures : W → ℕ) (limits : LimitValues)
    (had : Option (List (List ℕ))) (items : List Item) (out : Option (SplitOutput W)) → HoldsOutput contents failures limits had
    items out → open_failures failures out ≡ 0
quiet_output contents failures limits had items None h = refl
quiet_output contents failures limits had items (Some out) h = h.quiet

pub takes_foot : {O W : Type 0} (told : Told O W) (item : Item)
    (r : RecordValue) (s new : Splitting W) (now : O) (result : Result (Unit {0}) ToolFault) → item ≡ GroupClosed r
    → MayTake told item s now
    → EndsGroup told.contents told.writer_failures result s new → TakesItem told item result s new now now
takes_foot told item r s new now (Ok u) e may done =
    subst (λ (i : Item). TakesItem told i (Ok u) s new now now) (sym e)
    (foot_taken told r u s new now done)
takes_foot told item r s new now (Err fault) e may done =
    writer_failed told s.output new.output now fault
    (quiet_output told.contents told.writer_failures s.limits (told.texts now) (open_items may.stage) s.output may.holds.output)
    done

pub takes_end : {O W : Type 0} (told : Told O W) (item : Item)
    (s new : Splitting W) (now after : O) (result : Result (Unit {0}) ToolFault) → item ≡ Ended
    → FinishesOutput told result s new now after
    → TakesItem told item result s new now after
takes_end told item s new now after (Ok u) e done =
    subst (λ (i : Item). TakesItem told i (Ok u) s new now after) (sym e)
    (end_taken told u s new now after done)
takes_end told item s new now after (Err fault) e done = done
