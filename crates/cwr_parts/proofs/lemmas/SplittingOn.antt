-- A split continues with each item that is handed out.
use Rattle.std.proofs.Common.{◌≡◌, ℕ, ◌+◌, ◌<◌, ◌≤◌, List, [], ◌∷◌, ◌++◌, length, map, Option, Some, refl, sym, ap, ap₂, subst}
use Rattle.std.proofs.Common.{◌∙◌, append_assoc, arith}
use Rattle.std.specs.Prelude.{Ok, IfSome, count_by, if◌then◌else◌}
use Rattle.std.proofs.lemmas.List.{length-append, map-append}
use Rattle.std.proofs.lemmas.List.Sums.{count_by-le-length, sum_by-append}
use Rattle.cwr_shape.specs.declared.limits.Limits.{Limits}
use Rattle.cwr_shape.specs.Format.Ranges.{LimitValues}
use Rattle.cwr_values.specs.declared.items.Item.{Item}
use Rattle.cwr_values.specs.declared.items.Item.TheVariants.{Ended}
use Rattle.cwr_values.specs.Format.Values.{TransmissionValue, FitsIn, IsTransmission}
use Rattle.cwr_values.specs.Format.Rows.{canonical_text}
use Rattle.cwr_judge.specs.Format.Items.{AreFirstItems, is_transaction, value_items}
use Rattle.cwr_decode.specs.declared.machine.State.{State}
use Rattle.cwr_decode.specs.declared.machine.State.TheVariants as states
use Rattle.cwr_decode.specs.Steps.Machines.{Standing, again}
use Rattle.cwr_decode.specs.Steps.Readings.{LeavesRead, Reads, answer_of}
use Rattle.cwr_decode.specs.Steps.Runs.{IsReadingOn}
use Rattle.cwr_decode.proofs.lemmas.FirstItems.{first_items}
use Rattle.cwr_decode.proofs.lemmas.ItemsReadSoFar.{fewer_left, some_read}
use Rattle.cwr_parts.specs.declared.splitting.Splitting.{Splitting}
use Rattle.cwr_devices.specs.Format.Outputs.{AddsTexts}
use Rattle.cwr_parts.specs.Steps.SplitItems.{HoldsStage, IsTaken, MayTake}
use Rattle.cwr_parts.specs.Steps.SplitOutputs.{CountsNone, Told}
use Rattle.cwr_parts.specs.Steps.SplitStages.{SplitStage, Remains, Over, Start, parts_at, parts_in, split_stage_after, stage_in}
use Rattle.cwr_parts.specs.Steps.SplitSteps.{is_new}
use Rattle.cwr_parts.proofs.lemmas.StagesLeft.{remains_after}
use Rattle.cwr_parts.proofs.lemmas.StagesPassed.{adds_more, adds_nothing, over_after, parts_more, place_more}

-- ---- what was handed out so far

-- so many items were handed out, and the split holds what it holds after them
pub record IsSplitting {O W : Type 0} (limits : Limits) (n : ℕ) (d : Standing) (before now : Option (List ℕ)) (told : Told O W)
    (count : ℕ) (begin : O) (s : Splitting W) (o : O) : Type 0 where
  pub given : List Item
  pub reading : IsReadingOn limits d before now given
  pub handed_out : count ≡ length given
  pub size : s.size ≡ n
  pub limits_are : s.limits ≡ limits
  pub holds : HoldsStage told (stage_in n Start given) s o
  pub texts : AddsTexts (told.texts begin) (told.texts o) (map canonical_text (parts_in n Start given))
  pub counts : CountsNone told begin o
  pub outputs : s.report.outputs ≡ length (parts_in n Start given)
  pub transactions : s.report.transactions ≡ count_by is_transaction given
  pub over : stage_in n Start given ≡ Over → d.state ≡ states.Ended

unfoldable pub none_split : {O W : Type 0} (limits : Limits) (n : ℕ) (d : Standing) (before now : Option (List ℕ)) (told : Told O W)
    (s : Splitting W) (o : O) → s ≡ is_new limits n → IsReadingOn limits d
    before now []
    → IsSplitting limits n d before now told 0 o s o
none_split {W = W} limits n d before now told s o e reading =
    let first : Splitting W = is_new limits n in
    subst (λ (m : Splitting W). IsSplitting limits n d before now told 0 o m o) (sym e) (record {
      given = [];
      reading = reading;
      handed_out = refl;
      size = refl;
      limits_are = refl;
      holds =
          record { opening = tt; head = tt; output = refl; count = refl; group = refl; none = λ x. refl; counted = omega arith };
      texts = adds_nothing (told.texts o);
      counts = record { failures = refl; given_up = refl };
      outputs = refl;
      transactions = refl;
      over = λ x. absurd (cc x);
    })

-- ---- one item more

pub next_item : {O W : Type 0} (limits : Limits) (n : ℕ) (d new : Standing) (before left after : Option (List ℕ))
    (told : Told O W) (count : ℕ) (begin : O) (s : Splitting W) (o : O) (reported : Option Item)
    (item : Item) (B C : Type 0)
    → reported ≡ Some item → (h : IsSplitting limits n d before left told count begin s o)
    → Reads d left (Ok reported) new after → IfSome (again d.state) (λ x. (Some (Ok reported) ≡ answer_of x) × B × C)
    → IsReadingOn limits new before after (h.given ++ item ∷ [])
next_item limits n d new before left after told count begin s o reported item B C e h r same =
    some_read limits d new before left after h.given reported item B C e h.reading r same

-- a transmission within the limits that begins so
pub record Begun (limits : Limits) (given rest : List Item) : Type 0 where
  pub value : TransmissionValue
  pub whole : IsTransmission value
  pub within : FitsIn limits value
  pub more : List Item
  pub split : value_items value ≡ given ++ (rest ++ more)

pub begun_so : (limits : Limits) (d : Standing) (before now : Option (List ℕ)) (given rest : List Item)
    → IsReadingOn limits d before now (given ++ rest) → Begun limits given rest
begun_so limits d before now given rest h =
    let first =
    subst (λ (l : LimitValues). AreFirstItems l (given ++ rest)) h.read.limits_are
    (first_items d h.read.input (given ++ rest) h.read.stands) in
    record {
      value = first.value;
      whole = first.whole;
      within = first.within;
      more = first.rest;
      split = first.split ∙ append_assoc given rest first.rest;
    }

pub may_take : {O W : Type 0} (limits : Limits) (n : ℕ) (d new : Standing) (before left after : Option (List ℕ)) (told : Told O W)
    (count : ℕ) (begin : O) (s : Splitting W) (o : O) (item : Item)
    → 0 < n → (h : IsSplitting limits n d before left told count begin s o)
    → IsReadingOn limits new before after (h.given ++ item ∷ [])
    → (may : MayTake told item s o) × (may.stage ≡ stage_in n Start h.given)
may_take limits n d new before left after told count begin s o item some h reading =
    let first = begun_so limits new before after h.given (item ∷ []) reading in
    let remains = remains_after limits n first.value h.given (item ∷ first.more) some first.whole first.within first.split in (
      record {
        stage = stage_in n Start h.given;
        value = first.value;
        whole = parts_in n Start h.given;
        rest = first.more;
        some = subst (λ (k : ℕ). 0 < k) (sym h.size) some;
        right = first.whole;
        within = subst (λ (l : Limits). FitsIn l first.value) (sym h.limits_are) first.within;
        remains =
            subst (λ (l : Limits). Remains l s.size first.value (parts_in n Start h.given) (stage_in n Start h.given)
            (item ∷ first.more)) (sym h.limits_are)
            (subst (λ (k : ℕ). Remains limits k first.value (parts_in n Start h.given) (stage_in n Start h.given)
            (item ∷ first.more)) (sym h.size) remains);
        holds = h.holds;
        room =
            omega (
              arith,
              h.transactions,
              count_by-le-length is_transaction h.given,
              length-append h.given (item ∷ []),
              fewer_left limits new before after (h.given ++ item ∷ []) reading,
            );
      },
      refl,
    )

pub few_handed_out : {O W : Type 0} (limits : Limits) (n : ℕ) (d new : Standing) (before left after : Option (List ℕ))
    (told : Told O W) (count : ℕ) (begin : O) (s : Splitting W) (o : O)
    (item : Item)
    → (h : IsSplitting limits n d before left told count begin s o)
    → IsReadingOn limits new before after (h.given ++ item ∷ []) → count + 1 ≤ 199999998
few_handed_out limits n d new before left after told count begin s o item h reading =
    omega (
      arith,
      h.handed_out,
      length-append h.given (item ∷ []),
      fewer_left limits new before after (h.given ++ item ∷ []) reading,
    )

unfoldable pub item_taken : {O W : Type 0} (limits : Limits) (n : ℕ) (d new : Standing) (before left after : Option (List ℕ))
    (told : Told O W) (count : ℕ) (begin : O) (s next : Splitting W) (o later : O) (item : Item)
    → 0 < n → (h : IsSplitting limits n d before left told count begin s o)
    → IsReadingOn limits new before after (h.given ++ item ∷ []) → LeavesRead (Ok (Some item)) new.state
    → (stage : SplitStage) → stage ≡ stage_in n Start h.given
    → IsTaken told (split_stage_after s.size stage item) (parts_at s.size stage item) item s next o later
    → IsSplitting limits n new before after told (count + 1) begin next later
item_taken limits n d new before left after told count begin s next o later item some h reading leaves stage at
    taken =
    let first = begun_so limits new before after h.given (item ∷ []) reading in
    let remains = remains_after limits n first.value h.given (item ∷ first.more) some first.whole first.within first.split in
    let here : SplitStage = stage_in n Start h.given in
    let place_is : split_stage_after s.size stage item ≡ stage_in n Start (h.given ++ item ∷ []) =
    ap₂ (λ (k : ℕ) (p : SplitStage). split_stage_after k p item) h.size at ∙ sym (place_more n Start h.given item) in
    let parts_are : parts_at s.size stage item ≡ parts_at n here item =
    ap₂ (λ (k : ℕ) (p : SplitStage). parts_at k p item) h.size at in
    let all : parts_in n Start h.given ++ parts_at s.size stage item ≡ parts_in n Start (h.given ++ item ∷ []) =
    ap (λ (l : List TransmissionValue). parts_in n Start h.given ++ l) parts_are ∙ sym (parts_more n Start h.given item) in
    record {
      given = h.given ++ item ∷ [];
      reading = reading;
      handed_out = omega (arith, h.handed_out, length-append h.given (item ∷ []));
      size = taken.size ∙ h.size;
      limits_are = taken.limits ∙ h.limits_are;
      holds = subst (λ (p : SplitStage). HoldsStage told p next later) place_is taken.holds;
      texts =
          subst (AddsTexts (told.texts begin) (told.texts later))
          (sym (map-append canonical_text (parts_in n Start h.given) (parts_at s.size stage item)) ∙ ap (map canonical_text) all)
          (adds_more (told.texts begin) (told.texts o) (told.texts later) (map canonical_text (parts_in n Start h.given))
          (map canonical_text (parts_at s.size stage item)) h.texts taken.texts);
      counts =
          record { failures = taken.counts.failures ∙ h.counts.failures; given_up = taken.counts.given_up ∙ h.counts.given_up };
      outputs =
          omega
          (arith, taken.outputs, h.outputs, length-append (parts_in n Start h.given) (parts_at s.size stage item), ap length all);
      transactions =
          omega (
            arith,
            taken.transactions,
            h.transactions,
            sum_by-append (λ (x : Item). if is_transaction x then 1 else 0) h.given (item ∷ []),
          );
      over = λ e.
          let is : item ≡ Ended =
          over_after limits n first.value (parts_in n Start h.given) here item first.more remains
          (sym (place_more n Start h.given item) ∙ e) in
          subst (λ (i : Item). LeavesRead (Ok (Some i)) new.state) is leaves;
    }

pub leaves_item : (reported : Option Item) (item : Item) (state : State) → reported ≡ Some item → LeavesRead (Ok reported) state
    → LeavesRead (Ok (Some item)) state
leaves_item reported item state e h = subst (λ (r : Option Item). LeavesRead (Ok r) state) e h
