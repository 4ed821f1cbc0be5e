-- The items that were read come before the verdict.
use Rattle.std.proofs.Common.{◌≡◌, ℕ, List, [], ◌++◌, length, Option, Some, None, sym, ap, subst, ◌∙◌, append-nil, inl, inr}
use Rattle.std.specs.Prelude.{◌⊎◌, Result, Ok, Err, IfOk, IfSome}
use Rattle.std.proofs.KnownBytes.{Consumes-trans}
use Rattle.cwr_shape.specs.declared.limits.Limits.{Limits}
use Rattle.cwr_values.specs.declared.items.Item.{Item}
use Rattle.cwr_decode.specs.declared.machine.State.{State}
use Rattle.cwr_decode.specs.declared.machine.State.TheVariants as states
use Rattle.cwr_decode.specs.declared.readings.ReadFault.{ReadFault}
use Rattle.cwr_decode.specs.declared.readings.ReadFault.TheVariants as read_faults
use Rattle.cwr_decode.specs.Steps.Calls.{IsLive}
use Rattle.cwr_decode.specs.Steps.Machines.{Standing, again}
use Rattle.cwr_decode.specs.Steps.Readings.{answer_of, IsRightOf, Reads}
use Rattle.cwr_decode.specs.Steps.Runs.{EndsWhole, HasReadAll, IsReadingOn}
use Rattle.cwr_decode.proofs.lemmas.ItemsMakeOneTransmission.{items_once}
use Rattle.cwr_decode.proofs.lemmas.ItemsReadSoFar.{all_items, all_taken, run_reads, run_right}
use Rattle.cwr_tools.specs.declared.verdicts.Verdict.{Verdict}
use Rattle.cwr_tools.specs.declared.verdicts.Verdict.TheVariants.{Good}
use Rattle.cwr_tools.specs.declared.verdicts.ToolFault.{ToolFault}
use Rattle.cwr_tools.specs.Format.Verdicts.{IsVerdictOf}
use Rattle.cwr_tools.specs.Steps.Verdicts.{IsRightVerdict, StopsAfter}
use Rattle.cwr_calls.specs.declared.listing.Numbers.{Numbers}
use Rattle.cwr_calls.proofs.lemmas.CountedItems.{IsCount, good_count}

-- an ended decoder answers that nothing is left
no_fault : (state : State) (fault : ReadFault) (B C : Type 0) → state ≡ states.Ended
    → IfSome (again state) (λ o. (Some (Err fault) ≡ answer_of o) × B × C) → ⊥
no_fault state fault B C e h =
    let reported : Some (Err fault) ≡ Some (Ok None) =
    (subst (λ (s : State). IfSome (again s) (λ o. (Some (Err fault) ≡ answer_of o) × B × C)) e h).0 in
    absurd (cc reported)

-- after these items a fault came
pub stops_after : (limits : Limits) (old new : Standing) (before left after : Option (List ℕ)) (given : List Item)
    (fault : ReadFault) (B C : Type 0)
    → IsReadingOn limits old before left given → Reads old left (Err fault) new after
    → IfSome (again old.state) (λ o. (Some (Err fault) ≡ answer_of o) × B × C)
    → StopsAfter limits fault before after given
stops_after limits old new before left after given fault B C h r same = (
  record {
    decoder = new;
    given = given ++ [];
    read = record {
      input = h.read.input ++ r.bytes;
      stands = r.stands h.read.input given h.read.stands;
      consumed = Consumes-trans before left after h.read.input r.bytes h.read.consumed r.consumed;
      spent = (run_reads limits old new before left after given (Err fault) h.read r).spent;
      limits_are = r.limits ∙ h.read.limits_are;
    };
    leaves = r.leaves;
    fresh = λ is. r.fresh (ap (λ (f : ReadFault). Err f) is);
    right = by h.here;
  },
  append-nil given,
) where
  by : IsLive old.state ⊎ EndsWhole limits old.state before (length h.read.input) given
      → IfSome before (λ text. IsRightOf limits (Err fault) (h.read.input ++ r.bytes) text (given ++ []))
  by (inl live) = run_right limits old new before left after given (Err fault) h.read live r
  by (inr ended) = absurd (no_fault old.state fault B C ended.0 same)

-- the verdict after all items
pub good_right : (limits : Limits) (before after : Option (List ℕ)) (given : List Item) (c : Numbers)
    → HasReadAll limits before after given → IsCount c given
    → IsRightVerdict limits before (Good c.groups c.transactions c.records) after given
good_right limits before after given c h k =
    let all = all_items limits before after given h in (
      all.value,
      all_taken limits before after given all.value h (λ w whole are. items_once all.value w (sym all.given_are ∙ are)),
      all.given_are,
      good_count c given all.value all.given_are k,
    )

-- and that after a fault
pub fault_right : (limits : Limits) (before after : Option (List ℕ)) (given : List Item) (fault : ReadFault)
    (result : Result Verdict ToolFault) → StopsAfter limits fault before after given → IsVerdictOf fault result
    → IfOk result (λ verdict. IsRightVerdict limits before verdict after given)
fault_right limits before after given read_faults.Reader result stop e =
    subst (λ (r : Result Verdict ToolFault). IfOk r (λ verdict. IsRightVerdict limits before verdict after given)) (sym e) tt
fault_right limits before after given (read_faults.Refused refusal) result stop e =
    subst (λ (r : Result Verdict ToolFault). IfOk r (λ verdict. IsRightVerdict limits before verdict after given)) (sym e) stop
fault_right limits before after given (read_faults.Truncated records) result stop e =
    subst (λ (r : Result Verdict ToolFault). IfOk r (λ verdict. IsRightVerdict limits before verdict after given)) (sym e) stop
fault_right limits before after given read_faults.Memory result stop e =
    subst (λ (r : Result Verdict ToolFault). IfOk r (λ verdict. IsRightVerdict limits before verdict after given)) (sym e) tt
