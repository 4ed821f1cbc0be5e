-- A split at the end of its input, and at a fault.
use Rattle.std.proofs.Common.{◌≡◌, ◌≢◌, ℕ, ◌+◌, ◌*◌, ◌<◌, List, [], ◌∷◌, ◌++◌, length, map, Option, Some, None, sym, ap, ap₂}
use Rattle.std.proofs.Common.{subst, ◌∙◌, append-nil}
use Rattle.std.specs.Prelude.{◌/◌, Ok, Err, IfSome, count_by, sum_by, take}
use Rattle.std.proofs.lemmas.Nat.{div-mul-add}
use Rattle.cwr_shape.specs.declared.limits.Limits.{Limits}
use Rattle.cwr_shape.specs.Format.Ranges.{LimitValues}
use Rattle.cwr_values.specs.declared.items.Item.{Item}
use Rattle.cwr_values.specs.Format.Values.{TransmissionValue}
use Rattle.cwr_values.specs.Format.Rows.{canonical_text}
use Rattle.cwr_judge.specs.Format.Items.{AreFirstItems, is_transaction}
use Rattle.cwr_decode.specs.declared.machine.State.{State}
use Rattle.cwr_decode.specs.declared.machine.State.TheVariants as states
use Rattle.cwr_decode.specs.declared.readings.ReadFault.{ReadFault}
use Rattle.cwr_decode.specs.declared.readings.ReadFault.TheVariants as read_faults
use Rattle.cwr_decode.specs.Steps.Machines.{Standing, again}
use Rattle.cwr_decode.specs.Steps.Readings.{answer_of}
use Rattle.cwr_decode.specs.Steps.Runs.{HasReadAll, IsReadingOn}
use Rattle.cwr_decode.proofs.lemmas.CountedItems.{transactions_given}
use Rattle.cwr_decode.proofs.lemmas.FirstItems.{first_items}
use Rattle.cwr_decode.proofs.lemmas.ItemsMakeOneTransmission.{items_once}
use Rattle.cwr_decode.proofs.lemmas.ItemsReadSoFar.{all_items, all_taken}
use Rattle.cwr_parts.specs.declared.splitting.Splitting.{Splitting}
use Rattle.cwr_tools.specs.declared.verdicts.ToolFault.{ToolFault}
use Rattle.cwr_tools.specs.declared.verdicts.ToolFault.TheVariants as tool_faults
use Rattle.cwr_parts.specs.Steps.Joined.{reading_fault}
use Rattle.cwr_devices.specs.Format.Outputs.{AddsTexts}
use Rattle.cwr_parts.specs.Format.Splits.{split_of}
use Rattle.cwr_parts.specs.Steps.SplitItems.{HasCounted}
use Rattle.cwr_parts.specs.Steps.SplitOutputs.{FailsWith, IsOutputFault, Told}
use Rattle.cwr_parts.specs.Steps.SplitStages.{SplitStage, Over, Start, open_total, parts_in, stage_in}
use Rattle.cwr_parts.specs.Format.Splitting.{HasFullRuns, SplitsAll}
use Rattle.cwr_parts.specs.Steps.Splitting.{Splits}
use Rattle.cwr_tools.specs.Steps.Verdicts.{StopsAfter}
use Rattle.cwr_parts.proofs.lemmas.StagesLeft.{remains_after}
use lib.Seq.{take-append_seam}
use Rattle.cwr_parts.proofs.lemmas.StagesPassed.{at_end, counted_at, few_open, first_parts, is_over, more_left}
use Rattle.cwr_parts.proofs.lemmas.SplittingOn.{Begun, IsSplitting, begun_so}

-- ---- the full runs

-- before the end the parts that are whole are the runs that are filled
full_runs : {O W : Type 0} (limits : Limits) (n : ℕ) (d : Standing) (before now : Option (List ℕ)) (told : Told O W) (count : ℕ)
    (begin : O) (s : Splitting W) (o : O) → 0 < n
    → (h : IsSplitting limits n d before now told count begin s o) → stage_in n Start h.given ≢ Over
    → HasFullRuns limits n h.given (told.texts begin) (told.texts o)
full_runs limits n d before now told count begin s o some h before_end =
    let stage : SplitStage = stage_in n Start h.given in
    let parts : List TransmissionValue = parts_in n Start h.given in
    let first =
    subst (λ (l : LimitValues). AreFirstItems l h.given) h.reading.read.limits_are
    (first_items d h.reading.read.input h.given h.reading.read.stands) in
    let few : open_total stage < n =
    few_open limits n first.value parts stage first.rest some
    (remains_after limits n first.value h.given first.rest some first.whole first.within first.split) in
    let counted : length parts * n + open_total stage ≡ count_by is_transaction h.given =
    ap (λ (k : ℕ). k * n + open_total stage) (sym h.outputs)
    ∙ counted_at n stage s.report before_end (subst (λ (k : ℕ). HasCounted stage k s.report) h.size h.holds.counted)
    ∙ h.transactions in
    let filled : count_by is_transaction h.given / n ≡ length parts =
    ap (λ (k : ℕ). k / n) (sym counted) ∙ div-mul-add (length parts) n (open_total stage) few in
    record {
      begun = first;
      texts = λ v rest right fits e.
          let more = first_parts limits n v parts stage rest (remains_after limits n v h.given rest some right fits e) in
          let same : parts ≡ take (count_by is_transaction h.given / n) (split_of n v) =
          sym (take-append_seam parts more.0)
          ∙ ap₂ (λ (k : ℕ) (l : List TransmissionValue). take k l) (sym filled) (sym more.1) in
          subst (λ (l : List TransmissionValue). AddsTexts (told.texts begin) (told.texts o) (map canonical_text l)) same h.texts;
    }

-- ---- the ends

-- all was read
pub all_split : {O W : Type 0} (limits : Limits) (n : ℕ) (d : Standing) (before left after : Option (List ℕ)) (told : Told O W)
    (count : ℕ) (begin : O) (s : Splitting W) (o : O) → 0 < n
    → (h : IsSplitting limits n d before left told count begin s o) → HasReadAll limits before after h.given
    → SplitsAll limits n before after (told.texts begin) (told.texts o) s.report
all_split limits n d before left after told count begin s o some h read =
    let all = all_items limits before after h.given read in
    let taken =
    all_taken limits before after h.given all.value read (λ w whole are. items_once all.value w (sym all.given_are ∙ are)) in
    let parts : List TransmissionValue = parts_in n Start h.given in
    let remains =
    remains_after limits n all.value h.given [] some all.whole taken.accepted.within
    (sym all.given_are ∙ sym (append-nil h.given)) in
    let whole : split_of n all.value ≡ parts = at_end limits n all.value parts (stage_in n Start h.given) remains in
    let counted : s.report.transactions ≡ sum_by (λ g. length g.transactions) all.value.groups =
    h.transactions ∙ ap (count_by is_transaction) all.given_are ∙ transactions_given all.value in
    let outputs : s.report.outputs ≡ length (split_of n all.value) = h.outputs ∙ ap length (sym whole) in
    record {
      value = all.value;
      taken = taken;
      texts =
          subst (λ (l : List TransmissionValue). AddsTexts (told.texts begin) (told.texts o) (map canonical_text l)) (sym whole)
          h.texts;
      reported = λ i. record { outputs = outputs i; transactions = counted i };
    }

-- an ended decoder doesn't report a fault
not_ended : (state : State) (fault : ReadFault) (B C : Type 0)
    → IfSome (again state) (λ x. (Some (Err fault) ≡ answer_of x) × B × C) → state ≢ states.Ended
not_ended state fault B C h e =
    let reported : Some (Err fault) ≡ Some (Ok None) =
    (subst (λ (s : State). IfSome (again s) (λ x. (Some (Err fault) ≡ answer_of x) × B × C)) e h).0 in
    absurd (cc reported)

-- the reading stopped
pub reading_stopped : {O W : Type 0} (limits : Limits) (n : ℕ) (d : Standing) (before left after : Option (List ℕ))
    (told : Told O W) (count : ℕ) (begin : O) (s : Splitting W) (o : O)
    (fault : ReadFault) (B C : Type 0) → 0 < n
    → (h : IsSplitting limits n d before left told count begin s o)
    → IfSome (again d.state) (λ x. (Some (Err fault) ≡ answer_of x) × B × C) → StopsAfter limits fault before after h.given
    → Splits limits n before after (told.texts begin) (told.texts o) (Err (reading_fault fault))
reading_stopped limits n d before left after told count begin s o fault B C some h same stop = by fault stop
  where
    runs : HasFullRuns limits n h.given (told.texts begin) (told.texts o)
    runs =
        full_runs limits n d before left told count begin s o some h
        (λ e. not_ended d.state fault B C same (h.over e))

    by : (f : ReadFault) → StopsAfter limits f before after h.given
        → Splits limits n before after (told.texts begin) (told.texts o) (Err (reading_fault f))
    by read_faults.Reader k = (h.given, k, runs)
    by (read_faults.Refused refusal) k = (h.given, k, runs)
    by (read_faults.Truncated records) k = (h.given, k, runs)
    by read_faults.Memory k = (h.given, k, runs)

-- an output failed
pub output_stopped : {O W : Type 0} (limits : Limits) (n : ℕ) (d new : Standing) (before left after : Option (List ℕ))
    (told : Told O W) (count : ℕ) (begin : O) (s : Splitting W) (o later : O)
    (item : Item) (fault : ToolFault) (pending : ℕ) → 0 < n
    → (h : IsSplitting limits n d before left told count begin s o)
    → IsReadingOn limits new before after (h.given ++ item ∷ []) → FailsWith told fault pending o later
    → Splits limits n before after (told.texts begin) (told.texts later) (Err fault)
output_stopped limits n d new before left after told count begin s o later item fault pending some h reading f =
    by fault f.is
  where
    first : Begun limits h.given (item ∷ [])
    first = begun_so limits new before after h.given (item ∷ []) reading

    runs : HasFullRuns limits n h.given (told.texts begin) (told.texts later)
    runs = subst (λ (t : Option (List (List ℕ))). HasFullRuns limits n h.given (told.texts begin) t) (sym f.texts)
        (full_runs limits n d before left told count begin s o some h
        (more_left limits n first.value (parts_in n Start h.given) (stage_in n Start h.given) item first.more
        (remains_after limits n first.value h.given (item ∷ first.more) some first.whole first.within first.split)))

    by : (x : ToolFault) → IsOutputFault x → Splits limits n before after (told.texts begin) (told.texts later) (Err x)
    by (tool_faults.Writer written) k = (h.given, item, (new, reading), runs)
    by tool_faults.Output k = (h.given, item, (new, reading), runs)
    by tool_faults.Reader k = absurd k
    by tool_faults.Memory k = absurd k
    by (tool_faults.Refused refusal) k = absurd k
    by (tool_faults.Truncated records) k = absurd k
    by (tool_faults.Limit limit) k = absurd k

-- once all is read no output is open
pub no_output_left : {O W : Type 0} (limits : Limits) (n : ℕ) (d : Standing) (before left after : Option (List ℕ))
    (told : Told O W) (count : ℕ) (begin : O) (s : Splitting W) (o : O) → 0 < n
    → (h : IsSplitting limits n d before left told count begin s o) → HasReadAll limits before after h.given
    → s.output ≡ None
no_output_left limits n d before left after told count begin s o some h read =
    let all = all_items limits before after h.given read in
    let taken =
    all_taken limits before after h.given all.value read (λ w whole are. items_once all.value w (sym all.given_are ∙ are)) in
    let stage : SplitStage = stage_in n Start h.given in
    let remains =
    remains_after limits n all.value h.given [] some all.whole taken.accepted.within
    (sym all.given_are ∙ sym (append-nil h.given)) in
    let over : stage ≡ Over = is_over limits n all.value (parts_in n Start h.given) stage remains in
    h.holds.none (ap open_total over)
