-- What is made of an input whose numbers are put right is right of its text.
use Rattle.std.proofs.Common.{◌≡◌, ℕ, zero, suc, arith, Bool, true, false, not, ◌&&◌, ◌||◌, true≢false, List, [], Option, Some, None, refl, sym, ap, subst, inl, inr, ◌∙◌}
use Rattle.std.specs.Prelude.{Result, Ok, Err, IfSome, OnOk, option_map}
use Rattle.std.specs.Result.{is_ok}
use Rattle.cwr_devices.specs.Format.Failures.{one_more_failure}
use Rattle.cwr_shape.specs.declared.limits.Limits.{Limits}
use Rattle.cwr_values.specs.declared.items.Item.{Item}
use Rattle.cwr_values.specs.Format.Values.{TransmissionValue}
use Rattle.cwr_judge.specs.Format.Ends.{IsAccepted}
use Rattle.cwr_judge.specs.Format.Items.{value_items}
use Rattle.cwr_judge.proofs.lemmas.Accepted.{accepted_once}
use Rattle.cwr_tools.specs.declared.finding_counts.FindingCount.{FindingCount}
use Rattle.cwr_tools.specs.declared.verdicts.JoinReport.{JoinReport}
use Rattle.cwr_tools.specs.declared.verdicts.ToolFault.{ToolFault}
use Rattle.cwr_tools.specs.declared.verdicts.ToolFault.TheVariants as tool_faults
use Rattle.cwr_tools.specs.declared.viewing.FindingView.{FindingView}
use Rattle.cwr_tools.specs.Format.Viewing.{SeesText}
use Rattle.cwr_tools.specs.Format.Watching.{AreFindingsIn, any_from, is_reached}
use Rattle.cwr_parts.specs.Format.Joins.{IsOfDevice}
use Rattle.cwr_renumber.specs.Steps.Renumbered.{renumbered_text}
use Rattle.cwr_renumber.specs.Steps.Renumberings.{CountsWriter, Renumbers, RenumbersAccepted}
use Rattle.cwr_files.specs.Format.Files.{HasCounted, counted_on}
use Rattle.cwr_files.specs.Steps.NewFiles.{HasKeptCount}
use Rattle.cwr_endings.specs.declared.endings.Look.{Look}
use Rattle.cwr_endings.specs.declared.endings.Look.TheVariants as looks
use Rattle.cwr_endings.specs.declared.endings.Status.{Status}
use Rattle.cwr_endings.specs.declared.endings.Status.TheVariants as statuses
use Rattle.cwr_endings.specs.declared.endings.Wanted.{Wanted}
use Rattle.cwr_endings.specs.declared.stops.Stop.{Stop}
use Rattle.cwr_endings.specs.Format.Endings.{EndsAfterFault, FindsFrom}
use Rattle.cwr_transform.specs.declared.renumberings.Repaired.{Repaired}
use Rattle.cwr_transform.specs.Format.Repairs.{EndsAsRepair, IsRepairStatus, RepairsToNone}
use Rattle.cwr_transform.specs.Steps.Repairs.{CountsRead, CountsRewritten, EndsRepaired, EndsRewritten, IsRightOf, Judges, Rewrites, StopsRight, keeps_repaired, kept_outcome, stands_alone}

-- ---- what is written of a reader

-- what holds of each bytes holds of those that are known
if_some : (o : Option (List ℕ)) (P : List ℕ → Type 0) → ((text : List ℕ) → o ≡ Some text → P text) → IfSome o P
if_some None P h = tt
if_some (Some text) P h = h text refl

some_of : (o : Option (List ℕ)) (text : List ℕ) (P : List ℕ → Type 0) → o ≡ Some text → IfSome o P → P text
some_of o text P e h = subst (λ (x : Option (List ℕ)). IfSome x P) e h

module _ {W : Type 0} (limits : Limits) (before : Option (List ℕ)) (contents : W → Option (List ℕ)) (first last : W) (old new : FindingView) where
  abbrev Seen : Type 0
  Seen = SeesText limits (λ view items. view.lacks_memory ≡ false → AreFindingsIn view.count items) (option_map renumbered_text before) old new

  seen_in : AreFindingsIn old.count [] → new.lacks_memory ≡ false → Seen → (text : List ℕ) → before ≡ Some text
      → (v : TransmissionValue) (n : ℕ) → IsAccepted limits (renumbered_text text) v n → AreFindingsIn new.count (value_items v)
  seen_in none had seen text e v n a =
      subst (λ (o : Option (List ℕ)). SeesText limits (λ view items. view.lacks_memory ≡ false → AreFindingsIn view.count items)
      (option_map renumbered_text o) old new) e seen v n a [] (λ _. none) had

  stops : (fault : ToolFault) → (fault ≡ tool_faults.Output → ⊥)
      → ((text : List ℕ) → before ≡ Some text → (v : TransmissionValue) (n : ℕ) → IsAccepted limits (renumbered_text text) v n → IsOfDevice fault)
      → StopsRight renumbered_text limits before fault
  stops fault unmade right = record {
    right = if_some before (λ text. (v : TransmissionValue) (count : ℕ) → IsAccepted limits (renumbered_text text) v count → IsOfDevice fault) right;
    unmade = unmade;
  }

  unmade_by : (fault : ToolFault) → Renumbers limits before contents first last (Err fault) → fault ≡ tool_faults.Output → ⊥
  unmade_by fault h e = subst (λ (f : ToolFault). Renumbers limits before contents first last (Err f)) e h

  pub rewrites_so : (outcome : Result JoinReport ToolFault) → AreFindingsIn old.count [] → Renumbers limits before contents first last outcome
      → RenumbersAccepted limits before contents first last outcome → OnOk outcome Seen
      → Rewrites renumbered_text limits (AreFindingsIn new.count) before contents first last (kept_outcome new.lacks_memory outcome)
  rewrites_so (Ok report) none h a seen = by new.lacks_memory refl where
    by : (lacks : Bool) → new.lacks_memory ≡ lacks
        → Rewrites renumbered_text limits (AreFindingsIn new.count) before contents first last (kept_outcome lacks (Ok report))
    by true e = stops tool_faults.Memory (λ q. cc q) (λ text known v n accepted. tt)
    by false e = record {
      value = h.0;
      whole = h.1;
      within = h.2;
      written = h.3;
      accepted = if_some before
          (λ text. (count : ℕ) × IsAccepted limits (renumbered_text text) h.0 count × AreFindingsIn new.count (value_items h.0))
          (λ text known.
          let accepted = some_of before text (λ t. (n : ℕ) × IsAccepted limits (renumbered_text t) h.0 n) known h.5 in
          (accepted.0, accepted.1, seen_in none e seen text known h.0 accepted.0 accepted.1));
    }
  rewrites_so (Err fault) none h a seen =
      stops fault (unmade_by fault h)
      (λ text known v n accepted. some_of before text
      (λ t. (v : TransmissionValue) (n : ℕ) → IsAccepted limits (renumbered_text t) v n → IsOfDevice fault) known a v n accepted)

-- ---- failures

pub writes_so : (lacks : Bool) (outcome : Result JoinReport ToolFault) (old new : ℕ) → CountsWriter outcome old new
    → CountsWriter (kept_outcome lacks outcome) old new
writes_so true (Ok report) old new h = h
writes_so false (Ok report) old new h = h
writes_so lacks (Err fault) old new h = h

-- the reader's are counted by the store that takes it back
kept_on : (times old new : ℕ) → new ≡ counted_on times old → HasKeptCount old new
kept_on zero old new e lt = omega (arith, e)
kept_on (suc times) old new e lt = omega (arith, e, lt)

counted_so : (times first old new : ℕ) → first ≡ 0 → times ≡ one_more_failure first → new ≡ counted_on times old → HasCounted old new
counted_so zero first old new none more e lt = absurd (omega (arith, none, more))
counted_so (suc times) first old new none more e lt = omega (arith, e, lt)

pub repair_reads : (outcome : Result JoinReport ToolFault) (look : Look) (first times old new : ℕ) → first ≡ 0
    → CountsRewritten outcome look first times → new ≡ counted_on times old → CountsRead outcome look old new
repair_reads (Ok report) looks.Failed first times old new none h e = counted_so times first old new none h e
repair_reads (Ok report) (looks.Found t) first times old new none h e = kept_on times old new e
repair_reads (Ok report) looks.Unasked first times old new none h e = kept_on times old new e
repair_reads (Err tool_faults.Reader) look first times old new none h e = counted_so times first old new none h e
repair_reads (Err (tool_faults.Writer n)) look first times old new none h e = kept_on times old new e
repair_reads (Err tool_faults.Memory) look first times old new none h e = kept_on times old new e
repair_reads (Err tool_faults.Output) look first times old new none h e = kept_on times old new e
repair_reads (Err (tool_faults.Refused r)) look first times old new none h e = kept_on times old new e
repair_reads (Err (tool_faults.Truncated n)) look first times old new none h e = kept_on times old new e
repair_reads (Err (tool_faults.Limit l)) look first times old new none h e = kept_on times old new e

-- ---- what is known of an input

-- whether a finding is unwanted
pub found_so : {W : Type 0} (limits : Limits) (wanted : Wanted) (before : Option (List ℕ)) (contents : W → Option (List ℕ)) (first last : W)
    (count : FindingCount) (outcome : Result JoinReport ToolFault) (found : Bool)
    → found ≡ (is_ok outcome && is_reached wanted.fail_on count.worst)
    → Rewrites renumbered_text limits (AreFindingsIn count) before contents first last outcome
    → Rewrites renumbered_text limits (λ items. FindsFrom wanted.fail_on items found) before contents first last outcome
found_so limits wanted before contents first last count (Ok report) found is h = record {
  value = h.value;
  whole = h.whole;
  within = h.within;
  written = h.written;
  accepted = if_some before
      (λ text. (n : ℕ) × IsAccepted limits (renumbered_text text) h.value n × FindsFrom wanted.fail_on (value_items h.value) found)
      (λ text known.
      let a = some_of before text
      (λ t. (n : ℕ) × IsAccepted limits (renumbered_text t) h.value n × AreFindingsIn count (value_items h.value)) known h.accepted in
      (a.0, a.1, sym (is ∙ a.2.worst wanted.fail_on)));
}
found_so limits wanted before contents first last count (Err fault) found is h = h

-- what is written is right of the text
pub judges_so : {W : Type 0} (limits : Limits) (counts : List Item → Type 0) (before : Option (List ℕ)) (contents : W → Option (List ℕ))
    (first last : W) (outcome : Result JoinReport ToolFault) → Rewrites renumbered_text limits counts before contents first last outcome
    → Judges renumbered_text limits counts before outcome
judges_so limits counts before contents first last (Ok report) h =
    if_some before
    (λ text. (v : TransmissionValue) × (n : ℕ) × IsAccepted limits (renumbered_text text) v n × counts (value_items v))
    (λ text known.
    let a = some_of before text (λ t. (n : ℕ) × IsAccepted limits (renumbered_text t) h.value n × counts (value_items h.value)) known h.accepted in
    (h.value, a.0, a.1, a.2))
judges_so limits counts before contents first last (Err fault) h = h

-- ---- the status

module _ (limits : Limits) (wanted : Wanted) (anyway : Bool) (input : Option (List ℕ)) (repaired : Repaired) where
  abbrev Ends : Result Status Stop → Type 0
  Ends ending = EndsAsRepair renumbered_text limits wanted anyway input ending

  abbrev HasStatus : List ℕ → Status → Type 0
  HasStatus text status = IsRepairStatus renumbered_text limits wanted anyway text status

  abbrev Accepts : List ℕ → Type 0
  Accepts text = (v : TransmissionValue) × (n : ℕ) × IsAccepted limits (renumbered_text text) v n
      × FindsFrom wanted.fail_on (value_items v) repaired.found

  -- ---- of a transmission that was written

  good_so : repaired.found ≡ false → (text : List ℕ) → Accepts text → HasStatus text statuses.Good
  good_so none text a = (
    a.0,
    record {
      count = a.1;
      accepted = a.2;
      calm = subst (λ (b : Bool). FindsFrom wanted.fail_on (value_items a.0) b) none a.3;
    },
  )

  -- it isn't what is wanted
  none_so : (text : List ℕ) → Accepts text → repaired.found ≡ true → RepairsToNone renumbered_text limits wanted text
  none_so text a is v r =
      let same : a.0 ≡ v = (accepted_once limits (renumbered_text text) a.0 v a.1 r.count a.2 r.accepted).0 in
      true≢false (sym is ∙ sym a.3 ∙ ap (λ (w : TransmissionValue). any_from wanted.fail_on (value_items w)) same ∙ r.calm)

  refused_so : (found mixed alone whole : Bool) → repaired.found ≡ found → repaired.mixed ≡ mixed → wanted.whole ≡ whole
      → (repaired.mixed ≡ true → anyway ≡ false) → (((true && (alone || not whole)) && not found) && not mixed) ≡ false
      → (text : List ℕ) → Accepts text → HasStatus text statuses.Refused
  refused_so true mixed alone whole f m w may e text a = inl (none_so text a f)
  refused_so false true alone whole f m w may e text a = inr (inr (may m))
  refused_so false false alone true f m w may e text a = inr (inl w)
  refused_so false false true false f m w may e text a = absurd (true≢false e)
  refused_so false false false false f m w may e text a = absurd (true≢false e)

  -- it is: so none is unwanted
  calm_so : (found mixed alone whole : Bool) → (((true && (alone || not whole)) && not found) && not mixed) ≡ true → found ≡ false
  calm_so false mixed alone whole e = refl
  calm_so true mixed true whole e = absurd (true≢false (sym e))
  calm_so true mixed false true e = absurd (true≢false (sym e))
  calm_so true mixed false false e = absurd (true≢false (sym e))

  status_of : (P : List ℕ → Type 0) (status : Status) → ((text : List ℕ) → P text → HasStatus text status) → IfSome input P → Ends (Ok status)
  status_of P status so h = if_some input (λ text. HasStatus text status) (λ text known. so text (some_of input text P known h))

  rewritten_ends : (whole : Bool) (ending : Result Status Stop) → wanted.whole ≡ whole → (repaired.mixed ≡ true → anyway ≡ false)
      → IfSome input Accepts
      → (keeps : Bool) → (((true && (stands_alone repaired.look || not whole)) && not repaired.found) && not repaired.mixed) ≡ keeps
      → EndsRewritten keeps repaired.look repaired ending → Ends ending
  rewritten_ends whole ending w may h true e ends =
      subst Ends (sym ends) (status_of Accepts statuses.Good
      (good_so (calm_so repaired.found repaired.mixed (stands_alone repaired.look) whole e)) h)
  rewritten_ends whole ending w may h false e ends = by repaired.look ends where
    refused : Ends (Ok statuses.Refused)
    refused = status_of Accepts statuses.Refused
        (refused_so repaired.found repaired.mixed (stands_alone repaired.look) whole refl refl w may e) h

    by : (look : Look) → EndsRewritten false look repaired ending → Ends ending
    by looks.Failed same = subst Ends (sym same) tt
    by (looks.Found t) same = subst Ends (sym same) refused
    by looks.Unasked same = subst Ends (sym same) refused

  stopped_ends : (written made : Stop) (fault : ToolFault) (ending : Result Status Stop) → StopsRight renumbered_text limits input fault
      → EndsAfterFault repaired.read written made (Some fault) ending → Ends ending
  stopped_ends written made tool_faults.Reader ending h ends = subst Ends (sym ends) tt
  stopped_ends written made (tool_faults.Writer n) ending h ends = subst Ends (sym ends) tt
  stopped_ends written made tool_faults.Memory ending h ends = subst Ends (sym ends) tt
  stopped_ends written made tool_faults.Output ending h ends = subst Ends (sym ends) tt
  stopped_ends written made (tool_faults.Refused r) ending h ends = subst Ends (sym ends) (status_of _ statuses.Refused
      (λ text right. inl (λ v a. right v a.count a.accepted)) h.right)
  stopped_ends written made (tool_faults.Truncated n) ending h ends = subst Ends (sym ends) (status_of _ statuses.Refused
      (λ text right. inl (λ v a. right v a.count a.accepted)) h.right)
  stopped_ends written made (tool_faults.Limit l) ending h ends = subst Ends (sym ends) (status_of _ statuses.Refused
      (λ text right. inl (λ v a. right v a.count a.accepted)) h.right)

  pub repair_ends : (written made : Stop) (outcome : Result JoinReport ToolFault) (ending : Result Status Stop) → repaired.outcome ≡ outcome
      → IsRightOf renumbered_text limits wanted anyway input repaired → EndsRepaired wanted.whole written made outcome repaired ending
      → Ends ending
  repair_ends written made (Ok report) ending is right ends =
      rewritten_ends wanted.whole ending refl right.mixed
      (subst (λ (o : Result JoinReport ToolFault). Judges renumbered_text limits (λ items. FindsFrom wanted.fail_on items repaired.found) input o)
      is right.judged)
      (keeps_repaired wanted.whole repaired)
      (ap (λ (o : Result JoinReport ToolFault). ((is_ok o && (stands_alone repaired.look || not wanted.whole)) && not repaired.found) && not repaired.mixed)
      (sym is)) ends
  repair_ends written made (Err fault) ending is right ends =
      stopped_ends written made fault ending
      (subst (λ (o : Result JoinReport ToolFault). Judges renumbered_text limits (λ items. FindsFrom wanted.fail_on items repaired.found) input o)
      is right.judged) ends
