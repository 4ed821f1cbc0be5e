-- What a run has put so far continues with each item, up to the verdict or a fault.
use Rattle.std.proofs.Common.{◌≡◌, ℕ, List, [], ◌∷◌, ◌++◌, length, Bool, Option, Some, None, refl, sym, ap, subst, ◌∙◌, inl, inr}
use Rattle.std.proofs.Common.{false, true≢false, append-nil}
use Rattle.std.specs.Prelude.{◌⊎◌, Result, Ok, Err, IfSome}
use Rattle.std.specs.Result.{IsErrAnd}
use Rattle.std.proofs.KnownBytes.{Consumes-trans}
use Rattle.cwr_shape.specs.declared.limits.Limits.{Limits}
use Rattle.cwr_values.specs.declared.items.Item.{Item}
use Rattle.cwr_decode.specs.declared.machine.State.{State}
use Rattle.cwr_decode.specs.declared.machine.State.TheVariants as states
use Rattle.cwr_decode.specs.declared.readings.ReadFault.{ReadFault}
use Rattle.cwr_decode.specs.declared.readings.ReadFault.TheVariants as faults
use Rattle.cwr_decode.specs.Steps.Calls.{IsLive}
use Rattle.cwr_decode.specs.Steps.Machines.{Standing, again}
use Rattle.cwr_decode.specs.Steps.Readings.{answer_of, IsRightOf, Reads}
use Rattle.cwr_decode.specs.Steps.Runs.{HasReadAll, EndsWhole, IsReadingOn}
use Rattle.cwr_decode.proofs.lemmas.ItemsMakeOneTransmission.{items_once}
use Rattle.cwr_decode.proofs.lemmas.ItemsReadSoFar.{all_items, all_taken, run_reads, run_right, some_read}
use Rattle.cwr_devices.specs.declared.sinks.Sink.{Sink}
use Rattle.cwr_tools.specs.declared.verdicts.Verdict.{Verdict}
use Rattle.cwr_tools.specs.declared.verdicts.Verdict.TheVariants.{Good}
use Rattle.cwr_tools.specs.declared.verdicts.ToolFault.{ToolFault}
use Rattle.cwr_tools.specs.declared.verdicts.ToolFault.TheVariants as tool_faults
use Rattle.cwr_tools.specs.declared.totals.Totals.{Totals}
use Rattle.cwr_tools.specs.Format.Verdicts.{IsVerdictOf}
use Rattle.cwr_tools.specs.Steps.Verdicts.{totals_with, StopsAfter, IsRightVerdict}
use Rattle.cwr_tools.specs.Format.Reports.{CountsReaderFault, ItemLines}
use Rattle.cwr_tools.specs.Steps.Counts.{HasRoomToCount, IsCount}
use Rattle.cwr_tools.specs.Steps.Reports.{IsCut, IsPut, PutsLines, PutsNext, PutsReport, StandsPut}
use Rattle.cwr_tools.specs.Steps.Counts.{HasRoomToCount}
use Rattle.cwr_tools.proofs.lemmas.CountedTotals.{count_more, good_count, has_room}
use Rattle.cwr_tools.proofs.lemmas.ReportSteps.{put_both}

-- ---- how a reading stops

-- an ended decoder answers that nothing is left
no_fault : (state : State) (fault : ReadFault) (B C : Type 0) → state ≡ states.Ended
    → IfSome (again state) (λ o. (Some (Err fault) ≡ answer_of o) × B × C) → ⊥
no_fault state fault B C e h =
    let reported : Some (Err fault) ≡ Some (Ok None) =
    (subst (λ (s : State). IfSome (again s) (λ o. (Some (Err fault) ≡ answer_of o) × B × C)) e h).0 in
    absurd (cc reported)

-- after these items a fault came
pub stops_after : (limits : Limits) (old new : Standing) (before left after : Option (List ℕ)) (given : List Item)
    (fault : ReadFault) (B C : Type 0)
    → IsReadingOn limits old before left given → Reads old left (Err fault) new after
    → IfSome (again old.state) (λ o. (Some (Err fault) ≡ answer_of o) × B × C)
    → StopsAfter limits fault before after given
stops_after limits old new before left after given fault B C h r same = (
  record {
    decoder = new;
    given = given ++ [];
    read = record {
      input = h.read.input ++ r.bytes;
      stands = r.stands h.read.input given h.read.stands;
      consumed = Consumes-trans before left after h.read.input r.bytes h.read.consumed r.consumed;
      spent = (run_reads limits old new before left after given (Err fault) h.read r).spent;
      limits_are = r.limits ∙ h.read.limits_are;
    };
    leaves = r.leaves;
    fresh = λ is. r.fresh (ap (λ (f : ReadFault). Err f) is);
    right = by h.here;
  },
  append-nil given,
) where
  by : IsLive old.state ⊎ EndsWhole limits old.state before (length h.read.input) given
      → IfSome before (λ text. IsRightOf limits (Err fault) (h.read.input ++ r.bytes) text (given ++ []))
  by (inl live) = run_right limits old new before left after given (Err fault) h.read live r
  by (inr ended) = absurd (no_fault old.state fault B C ended.0 same)

-- and that was the decoder
pub stops_decoder : (limits : Limits) (old new : Standing) (before left after : Option (List ℕ)) (given : List Item)
    (fault : ReadFault) (B C : Type 0)
    (h : IsReadingOn limits old before left given) (r : Reads old left (Err fault) new after)
    (same : IfSome (again old.state) (λ o. (Some (Err fault) ≡ answer_of o) × B × C))
    → (stops_after limits old new before left after given fault B C h r same).0.decoder ≡ new
unfolding stops_after
stops_decoder limits old new before left after given fault B C h r same = refl

-- ---- what was put so far

-- the lines of the items so far were put, they were counted, and what stands after them stands
pub record IsReporting {W : Type 0} (of : ItemLines) (stands : List Item → Type 0) (limits : Limits) (d : Standing)
    (before now : Option (List ℕ)) (contents : W → Option (List ℕ)) (failures : W → ℕ) (c : Totals) (old sink : Sink W) : Type 0
  where
    pub given : List Item
    pub reading : IsReadingOn limits d before now given
    pub counts : IsCount c given
    pub put : IsPut contents failures (of.lines given) old sink
    pub here : stands given

-- what stands before the items was put
pub first_put : {W : Type 0} (of : ItemLines) (stands : List Item → Type 0) (limits : Limits) (d : Standing)
    (before now : Option (List ℕ)) (contents : W → Option (List ℕ)) (failures : W → ℕ) (c : Totals) (u : Unit {0})
    (old sink : Sink W)
    → IsReadingOn limits d before now [] → IsCount c [] → stands [] → PutsLines contents failures false (of.lines []) (Ok u) old sink
    → IsReporting of stands limits d before now contents failures c old sink
first_put of stands limits d before now contents failures c u old sink reading counts here p =
    record { given = []; reading = reading; counts = counts; put = p; here = here }

-- the writer failed in it
pub first_fault : {W : Type 0} (of : ItemLines) (end : List Item → Verdict → List ℕ) (limits : Limits) (d : Standing)
    (before now : Option (List ℕ)) (contents : W → Option (List ℕ)) (failures : W → ℕ) (fault : ToolFault) (old sink : Sink W)
    → IsReadingOn limits d before now [] → PutsLines contents failures false (of.lines []) (Err fault) old sink
    → PutsReport of end limits before now contents failures (Err fault) old sink
first_fault of end limits d before now contents failures (tool_faults.Writer n) old sink reading p =
    ([], of.lines [], inl ((d, reading), refl), p)
first_fault of end limits d before now contents failures tool_faults.Memory old sink reading p = absurd (true≢false (sym p.0))
first_fault of end limits d before now contents failures tool_faults.Reader old sink reading p = absurd p
first_fault of end limits d before now contents failures (tool_faults.Refused r) old sink reading p = absurd p
first_fault of end limits d before now contents failures (tool_faults.Truncated r) old sink reading p = absurd p
first_fault of end limits d before now contents failures tool_faults.Output old sink reading p = absurd p
first_fault of end limits d before now contents failures (tool_faults.Limit l) old sink reading p = absurd p

pub room_in : {W : Type 0} (of : ItemLines) (stands : List Item → Type 0) (limits : Limits) (d : Standing)
    (before now : Option (List ℕ)) (contents : W → Option (List ℕ)) (failures : W → ℕ) (c : Totals) (old sink : Sink W)
    → IsReporting of stands limits d before now contents failures c old sink → HasRoomToCount c
room_in of stands limits d before now contents failures c old sink h = has_room limits d before now c h.given h.reading h.counts

-- an item more was read
pub reads_item : {W : Type 0} (of : ItemLines) (stands : List Item → Type 0) (limits : Limits) (d new : Standing)
    (before left after : Option (List ℕ)) (contents : W → Option (List ℕ)) (failures : W → ℕ) (c : Totals) (old sink : Sink W)
    (reported : Option Item) (item : Item) (B C : Type 0)
    → reported ≡ Some item → (h : IsReporting of stands limits d before left contents failures c old sink)
    → Reads d left (Ok reported) new after → IfSome (again d.state) (λ o. (Some (Ok reported) ≡ answer_of o) × B × C)
    → IsReadingOn limits new before after (h.given ++ item ∷ [])
reads_item of stands limits d new before left after contents failures c old sink reported item B C e h r same =
    some_read limits d new before left after h.given reported item B C e h.reading r same

-- and its lines were put
pub reports_item : {W : Type 0} (of : ItemLines) (stands more : List Item → Type 0) (limits : Limits) (d new : Standing)
    (before left after : Option (List ℕ)) (contents : W → Option (List ℕ)) (failures : W → ℕ) (c : Totals)
    (old sink next : Sink W) (item : Item) (u : Unit {0})
    → (h : IsReporting of stands limits d before left contents failures c old sink)
    → IsReadingOn limits new before after (h.given ++ item ∷ [])
    → PutsNext contents failures of h.given item (Ok u) sink next → more (h.given ++ item ∷ [])
    → IsReporting of more limits new before after contents failures (totals_with c item) old next
reports_item of stands more limits d new before left after contents failures c old sink next item u h reading p here = record {
  given = h.given ++ item ∷ [];
  reading = reading;
  counts = count_more c h.given item h.counts;
  put =
      subst (λ (l : List ℕ). IsPut contents failures l old next) (sym p.1)
      (put_both contents failures (of.lines h.given) p.0 (Ok tt) old sink next h.put p.2);
  here = here;
}

-- ---- the ends

-- a fault came while the item's lines were put
pub item_fault : {W : Type 0} (of : ItemLines) (stands : List Item → Type 0) (end : List Item → Verdict → List ℕ) (limits : Limits)
    (d new : Standing) (before left after : Option (List ℕ)) (contents : W → Option (List ℕ)) (failures : W → ℕ) (c : Totals)
    (old sink next : Sink W) (item : Item) (fault : ToolFault)
    → (h : IsReporting of stands limits d before left contents failures c old sink)
    → IsReadingOn limits new before after (h.given ++ item ∷ [])
    → PutsNext contents failures of h.given item (Err fault) sink next
    → PutsReport of end limits before after contents failures (Err fault) old next
item_fault of stands end limits d new before left after contents failures c old sink next item tool_faults.Memory h reading p = (
  h.given,
  inr (item, p.2.0, (new, reading)),
  subst (λ (s : Sink _). IsPut contents failures (of.lines h.given) old s) (sym p.2.1) h.put,
)
item_fault of stands end limits d new before left after contents failures c old sink next item (tool_faults.Writer n) h reading
    p = (
      h.given ++ item ∷ [],
      of.lines (h.given ++ item ∷ []),
      inl ((new, reading), refl),
      subst (λ (l : List ℕ). IsCut contents failures l n old next) (sym p.1)
          (put_both contents failures (of.lines h.given) p.0 (Err (record { written = n })) old sink next h.put p.2),
    )
item_fault of stands end limits d new before left after contents failures c old sink next item tool_faults.Reader h reading p =
    absurd p.2
item_fault of stands end limits d new before left after contents failures c old sink next item (tool_faults.Refused r) h reading
    p =
    absurd p.2
item_fault of stands end limits d new before left after contents failures c old sink next item (tool_faults.Truncated r) h reading
    p =
    absurd p.2
item_fault of stands end limits d new before left after contents failures c old sink next item tool_faults.Output h reading p =
    absurd p.2
item_fault of stands end limits d new before left after contents failures c old sink next item (tool_faults.Limit l) h reading p =
    absurd p.2

-- such a fault is none of the reader's
pub no_reader_fault : {W : Type 0} (contents : W → Option (List ℕ)) (failures : W → ℕ) (take_memory : Bool) (text : List ℕ)
    (fault : ToolFault) (old new : Sink W) (before after : ℕ) → PutsLines contents failures take_memory text (Err fault) old new
    → after ≡ before
    → CountsReaderFault (Err fault) before after
no_reader_fault contents failures take_memory text tool_faults.Memory old new before after p same = same
no_reader_fault contents failures take_memory text (tool_faults.Writer n) old new before after p same = same
no_reader_fault contents failures take_memory text tool_faults.Reader old new before after p same = absurd p
no_reader_fault contents failures take_memory text (tool_faults.Refused r) old new before after p same = same
no_reader_fault contents failures take_memory text (tool_faults.Truncated r) old new before after p same = same
no_reader_fault contents failures take_memory text tool_faults.Output old new before after p same = same
no_reader_fault contents failures take_memory text (tool_faults.Limit l) old new before after p same = same

pub same_fault : {X : Type 0} (result : Result X ToolFault) (fault : ToolFault) → IsErrAnd result (λ e. e ≡ fault)
    → result ≡ Err fault
same_fault (Ok x) fault h = absurd h
same_fault (Err e) fault h = ap Err h

-- with no text for the verdict
abbrev pub nothing : List Item → Verdict → List ℕ
nothing given verdict = []

put_nothing : {W : Type 0} (contents : W → Option (List ℕ)) (failures : W → ℕ) (text : List ℕ) (old new : Sink W)
    → IsPut contents failures text old new → IsPut contents failures (text ++ []) old new
put_nothing contents failures text old new h =
    subst (λ (l : List ℕ). IsPut contents failures l old new) (sym (append-nil text)) h

-- the reading stopped with that fault
pub fault_reported : {W : Type 0} (of : ItemLines) (limits : Limits) (before after : Option (List ℕ))
    (contents : W → Option (List ℕ)) (failures : W → ℕ) (old sink : Sink W) (given : List Item) (fault : ReadFault)
    (result : Result Verdict ToolFault)
    → StopsAfter limits fault before after given → IsPut contents failures (of.lines given) old sink → IsVerdictOf fault result
    → PutsReport of nothing limits before after contents failures result old sink
fault_reported of limits before after contents failures old sink given faults.Reader result stop put e =
    subst (λ (r : Result Verdict ToolFault). PutsReport of nothing limits before after contents failures r old sink) (sym e)
    (given, stop, put)
fault_reported of limits before after contents failures old sink given (faults.Refused refusal) result stop put e =
    subst (λ (r : Result Verdict ToolFault). PutsReport of nothing limits before after contents failures r old sink) (sym e)
    (given, stop, put_nothing contents failures (of.lines given) old sink put)
fault_reported of limits before after contents failures old sink given (faults.Truncated records) result stop put e =
    subst (λ (r : Result Verdict ToolFault). PutsReport of nothing limits before after contents failures r old sink) (sym e)
    (given, stop, put_nothing contents failures (of.lines given) old sink put)
fault_reported of limits before after contents failures old sink given faults.Memory result stop put e =
    subst (λ (r : Result Verdict ToolFault). PutsReport of nothing limits before after contents failures r old sink) (sym e)
    (given, inl stop, put)

-- all was read
pub good_reported : {W : Type 0} (of : ItemLines) (limits : Limits) (before after : Option (List ℕ))
    (contents : W → Option (List ℕ)) (failures : W → ℕ) (old sink : Sink W) (given : List Item) (c : Totals) (verdict : Verdict)
    → HasReadAll limits before after given → IsCount c given → IsPut contents failures (of.lines given) old sink
    → verdict ≡ Good c.groups c.transactions c.records
    → PutsReport of nothing limits before after contents failures (Ok verdict) old sink
good_reported of limits before after contents failures old sink given c verdict h k put e =
    let all = all_items limits before after given h in
    let right : IsRightVerdict limits before (Good c.groups c.transactions c.records) after given = (
      all.value,
      all_taken limits before after given all.value h (λ w whole are. items_once all.value w (sym all.given_are ∙ are)),
      all.given_are,
      good_count c given all.value all.given_are k,
    ) in
    subst (λ (v : Verdict). PutsReport of nothing limits before after contents failures (Ok v) old sink) (sym e)
    (given, right, put_nothing contents failures (of.lines given) old sink put)

-- ---- what stands then

-- after the reading stopped with that fault
pub fault_stands : {W : Type 0} (of : ItemLines) (stands : List Item → Type 0) (limits : Limits) (before after : Option (List ℕ))
    (contents : W → Option (List ℕ)) (failures : W → ℕ) (old sink : Sink W) (given : List Item) (fault : ReadFault)
    (result : Result Verdict ToolFault)
    → StopsAfter limits fault before after given → stands given → IsPut contents failures (of.lines given) old sink
    → IsVerdictOf fault result → StandsPut of stands limits before after contents failures result old sink
fault_stands of stands limits before after contents failures old sink given faults.Reader result stop here put e =
    subst (λ (r : Result Verdict ToolFault). StandsPut of stands limits before after contents failures r old sink) (sym e) tt
fault_stands of stands limits before after contents failures old sink given (faults.Refused refusal) result stop here put e =
    subst (λ (r : Result Verdict ToolFault). StandsPut of stands limits before after contents failures r old sink) (sym e)
    (given, stop, here, put)
fault_stands of stands limits before after contents failures old sink given (faults.Truncated records) result stop here put e =
    subst (λ (r : Result Verdict ToolFault). StandsPut of stands limits before after contents failures r old sink) (sym e)
    (given, stop, here, put)
fault_stands of stands limits before after contents failures old sink given faults.Memory result stop here put e =
    subst (λ (r : Result Verdict ToolFault). StandsPut of stands limits before after contents failures r old sink) (sym e) tt

-- after a fault nothing is said of it
pub no_stands : {W : Type 0} (of : ItemLines) (stands : List Item → Type 0) (limits : Limits) (before after : Option (List ℕ))
    (contents : W → Option (List ℕ)) (failures : W → ℕ) (result : Result Verdict ToolFault) (fault : ToolFault)
    (old sink : Sink W) → result ≡ Err fault → StandsPut of stands limits before after contents failures result old sink
no_stands of stands limits before after contents failures result fault old sink e =
    subst (λ (r : Result Verdict ToolFault). StandsPut of stands limits before after contents failures r old sink) (sym e) tt
