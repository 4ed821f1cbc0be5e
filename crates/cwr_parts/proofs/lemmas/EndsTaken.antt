-- A split takes GRT or TRL: the open group ends, and at TRL the last output is handed over.
use Rattle.std.proofs.Common.{◌≡◌, ℕ, ◌+◌, ◌*◌, ◌<◌, zero, suc, Bool, false, List, [], ◌∷◌, ◌++◌, length, map, Option, Some, None}
use Rattle.std.proofs.Common.{refl, sym, ap, subst, ◌∙◌, append-nil, arith}
use Rattle.std.specs.Prelude.{flat_map, if◌then◌else◌, Ok}
use Rattle.cwr_lines.specs.Format.Records.{RecordValue}
use Rattle.cwr_shape.specs.declared.limits.Limits.{Limits}
use Rattle.cwr_shape.specs.Format.Ranges.{LimitValues}
use Rattle.cwr_values.specs.declared.items.Item.{Item}
use Rattle.cwr_values.specs.declared.items.Item.TheVariants.{Opened, GroupClosed, Ended}
use Rattle.cwr_values.specs.Format.Values.{GroupValue, TransmissionValue, FitsIn, IsTransmission}
use Rattle.cwr_values.specs.Format.Rows.{canonical_text}
use Rattle.cwr_judge.specs.Format.Items.{AreFirstItems, group_items, value_items}
use Rattle.cwr_parts.specs.declared.split_output.SplitOutput.{SplitOutput}
use Rattle.cwr_parts.specs.declared.splitting.Splitting.{Splitting}
use Rattle.cwr_devices.specs.Format.Outputs.{AddsTexts}
use Rattle.cwr_parts.specs.Steps.SplitOutputs.{CountsNone, HoldsOutput, Told, blank_end, end_of, open_count, open_end}
use Rattle.cwr_parts.specs.Steps.SplitStages.{ArePartGroups, SplitStage, RemainsBetween, Between, Inside, Over, last_of}
use Rattle.cwr_parts.specs.Steps.SplitStages.{open_items, parts_at, split_stage_after, total_in, value_of, with_group}
use Rattle.cwr_parts.specs.Steps.SplitItems.{HoldsStage, IsTaken, MayTake}
use Rattle.cwr_parts.specs.Steps.SplitSteps.{EndsGroup, FinishesOutput, IsHandedOver, IsOutsideOpen, MayEndGroup, MayEndHeld}
use Rattle.cwr_parts.specs.Steps.SplitSteps.{MayFinish, has_open_group, report_after}
use Rattle.cwr_parts.proofs.lemmas.FrontsFit.{fits_groups}
use Rattle.cwr_parts.proofs.lemmas.OutputSteps.{ended_output}
use Rattle.cwr_parts.proofs.lemmas.StagesHeld.{items_closed, some_in, total_with, with_end}
use Rattle.cwr_parts.proofs.lemmas.StagesOfItems.{adds_none, at_item}
use Rattle.cwr_parts.proofs.lemmas.TransactionsTaken.{no_fewer}

-- ---- GRT

-- the closed groups are a transmission within the limits
pub closed_right : (limits : Limits) (n : ℕ) (v : TransmissionValue) (whole : List TransmissionValue) (o : RecordValue)
    (closed : List GroupValue) (rest : List Item) → RemainsBetween limits n v whole o closed rest → 0 < length closed
    → IsTransmission (value_of o closed) × FitsIn limits (value_of o closed)
closed_right limits n v whole o closed rest p some =
    (record { opening = p.opening; some_group = some; each = p.right }, fits_groups limits o closed p.after p.within)

-- where a transaction was written there are closed groups
pub some_closed : (closed : List GroupValue) → 0 < total_in closed → 0 < length closed
some_closed [] some = absurd (omega (arith, some))
some_closed (g ∷ gs) some = omega arith

-- what was written before is the open part but for what ends it
pub some_open : {W : Type 0} (held : Option (SplitOutput W)) (out : SplitOutput W) (n : ℕ) → held ≡ Some out
    → (n ≡ 0 → held ≡ None) → 0 < n
some_open held out zero e none = absurd (let f : Some out ≡ None = sym e ∙ none refl in cc)
some_open held out (suc n) e none = omega arith

may_end_open : {O W : Type 0} (told : Told O W) (o : RecordValue)
    (closed : List GroupValue) (h : RecordValue) (cur : List (List RecordValue)) (v : TransmissionValue)
    (whole : List TransmissionValue) (rest : List Item)
    (s : Splitting W) (now : O) → HoldsStage told (Inside o closed h cur) s now
    → RemainsBetween s.limits s.size v whole o (with_group closed h cur) rest → (held : Option (SplitOutput W))
    → s.output ≡ held → MayEndGroup told.contents held
may_end_open told o closed h cur v whole rest s now had p None e = tt
may_end_open {W = W} told o closed h cur v whole rest s now had p (Some out) e =
    let some : 0 < total_in closed + length cur = some_open s.output out (total_in closed + length cur) e had.none in
    let groups : List GroupValue = with_group closed h cur in
    let there : 0 < length groups = some_closed groups (omega (arith, some, total_with closed h cur)) in
    let right = closed_right s.limits s.size v whole o groups rest p there in
    let items : List Item = open_items (Inside o closed h cur) in
    let output =
    subst (λ (x : Option (SplitOutput W)). HoldsOutput told.contents told.writer_failures s.limits (told.texts now) items x) e
    had.output in
    let ended : items ++ end_of out ≡ Opened o ∷ flat_map group_items groups =
    ap (λ (x : Option (SplitOutput W)). items ++ open_end x) (sym e) ∙ with_end o closed h cur s.output had.group
    ∙ items_closed o groups there in (
      output.unfailed,
      record {
        start = output.start;
        items = items;
        encodes = output.encodes;
        first = subst (λ (l : LimitValues). AreFirstItems l (items ++ end_of out)) (sym output.limits_are)
            (record {
              value = value_of o groups;
              whole = right.0;
              within = right.1;
              rest = Ended ∷ [];
              split = ap (λ (l : List Item). l ++ Ended ∷ []) (sym ended);
            });
      },
    )

pub may_end_group : {O W : Type 0} (told : Told O W) (r : RecordValue)
    (s : Splitting W) (now : O) → MayTake told (GroupClosed r) s now → MayEndGroup told.contents s.output
may_end_group told r s now may =
    let at = at_item s.limits s.size may.value may.whole may.stage (GroupClosed r) may.rest may.remains in
    let had = subst (λ (q : SplitStage). HoldsStage told q s now) at.4 may.holds in
    may_end_open told at.0 at.1 at.2 at.3 may.value may.whole may.rest s now had at.5 s.output refl

-- the output without its open group
outside : {O W : Type 0} (told : Told O W) (limits : LimitValues)
    (had : Option (List (List ℕ))) (items : List Item) (a b : Option (SplitOutput W))
    → IsOutsideOpen told.contents told.writer_failures a b
    → HoldsOutput told.contents told.writer_failures limits had items a
    → HoldsOutput told.contents told.writer_failures limits had (items ++ open_end a) b
    × (open_count b ≡ open_count a) × (has_open_group b ≡ false) × (a ≡ None → b ≡ None)
outside told limits had items None None h k = (append-nil items ∙ k, refl, refl, λ e. refl)
outside told limits had items (Some x) (Some y) h k =
    (ended_output told.contents told.writer_failures limits had items x y k h, h.counted, h.group, λ e. absurd (cc e))
outside told limits had items None (Some y) h k = absurd h
outside told limits had items (Some x) None h k = absurd h

pub foot_taken : {O W : Type 0} (told : Told O W) (r : RecordValue)
    (u : Unit {0}) (s new : Splitting W) (now : O) → EndsGroup told.contents told.writer_failures (Ok u) s new
    → (may : MayTake told (GroupClosed r) s now) → IsTaken told
    (split_stage_after s.size may.stage (GroupClosed r)) (parts_at s.size may.stage (GroupClosed r)) (GroupClosed r) s new now
    now
foot_taken {W = W} told r u s new now done may =
    let at = at_item s.limits s.size may.value may.whole may.stage (GroupClosed r) may.rest may.remains in
    let o : RecordValue = at.0 in
    let closed : List GroupValue = at.1 in
    let h : RecordValue = at.2 in
    let cur : List (List RecordValue) = at.3 in
    let had = subst (λ (q : SplitStage). HoldsStage told q s now) at.4 may.holds in
    let out : Option (SplitOutput W) = new.output in
    let left =
    outside told s.limits (told.texts now) (open_items (Inside o closed h cur)) s.output out done.1
    had.output in
    let total : total_in (with_group closed h cur) ≡ total_in closed + length cur = total_with closed h cur in
    subst (λ (q : SplitStage). IsTaken told (split_stage_after s.size q (GroupClosed r))
    (parts_at s.size q (GroupClosed r)) (GroupClosed r) s new now now) (sym at.4)
    (subst
    (λ (m : Splitting W). IsTaken told (Between o (with_group closed h cur)) [] (GroupClosed r) s m now now)
    (sym done.0) (record {
      holds = record {
        opening = had.opening;
        head = tt;
        output =
            subst (λ (l : List Item). HoldsOutput told.contents told.writer_failures s.limits (told.texts now) l out)
            (with_end o closed h cur s.output had.group) left.0;
        count = omega (arith, left.1, had.count, total);
        group = left.2;
        none = λ e. left.3 (had.none (omega (arith, e, total)));
        counted = omega (arith, had.counted, total);
      };
      texts = adds_none (told.texts now) (told.texts now) refl;
      counts = record { failures = refl; given_up = refl };
      limits = refl;
      size = refl;
      outputs = omega arith;
      transactions = omega arith;
    }))

-- ---- TRL

no_end : {W : Type 0} (out : SplitOutput W) → out.in_group ≡ false → end_of out ≡ []
no_end out e = ap (λ (b : Bool). if b then blank_end ∷ [] else []) e

may_finish_open : {O W : Type 0} (told : Told O W) (o : RecordValue)
    (closed : List GroupValue) (v : TransmissionValue) (whole : List TransmissionValue) (rest : List Item) (s : Splitting W)
    (now : O)
    → HoldsStage told (Between o closed) s now → RemainsBetween s.limits s.size v whole o closed rest
    → (held : Option (SplitOutput W)) → s.output ≡ held → MayEndHeld s.limits (open_items (Between o closed)) held
may_finish_open told o closed v whole rest s now had p None e = tt
may_finish_open told o closed v whole rest s now had p (Some out) e =
    let there : 0 < length closed = some_closed closed (some_open s.output out (total_in closed) e had.none) in
    let right = closed_right s.limits s.size v whole o closed rest p there in
    let items : List Item = open_items (Between o closed) in
    let ended : items ++ end_of out ≡ Opened o ∷ flat_map group_items closed =
    ap (λ (l : List Item). items ++ l) (no_end out (sym (ap has_open_group e) ∙ had.group)) ∙ append-nil items
    ∙ items_closed o closed there in
    record {
      value = value_of o closed;
      whole = right.0;
      within = right.1;
      items_are = ap (λ (l : List Item). l ++ Ended ∷ []) (sym ended);
    }

pub may_finish : {O W : Type 0} (told : Told O W) (s : Splitting W) (now : O)
    → MayTake told Ended s now → MayFinish told s now
may_finish told s now may =
    let at = at_item s.limits s.size may.value may.whole may.stage Ended may.rest may.remains in
    let had = subst (λ (q : SplitStage). HoldsStage told q s now) at.2 may.holds in
    record {
      items = open_items (Between at.0 at.1);
      held = had.output;
      ends = may_finish_open told at.0 at.1 may.value may.whole (Ended ∷ may.rest) s now had at.3 s.output refl;
    }

pub room_to_finish : {O W : Type 0} (told : Told O W) (s : Splitting W)
    (now : O) → MayTake told Ended s now → s.report.outputs < 199999999
room_to_finish told s now may =
    let at = at_item s.limits s.size may.value may.whole may.stage Ended may.rest may.remains in
    let had = subst (λ (q : SplitStage). HoldsStage told q s now) at.2 may.holds in
    let counted : s.report.outputs * s.size + total_in at.1 ≡ s.report.transactions = had.counted in
    omega (arith, no_fewer s.report.outputs s.size may.some, counted, may.room)

none_closed : (closed : List GroupValue) → ArePartGroups closed → total_in closed ≡ 0 → closed ≡ []
none_closed [] part e = refl
none_closed (g ∷ gs) part e = absurd (omega (arith, e, some_in (g ∷ gs) part (omega arith)))

some_last : (o : RecordValue) (closed : List GroupValue) → 0 < length closed → last_of o closed ≡ value_of o closed ∷ []
some_last o [] some = absurd (omega (arith, some))
some_last o (g ∷ gs) some = refl

-- what was handed over at the end
last_handed_over : {O W : Type 0} (told : Told O W) (o : RecordValue)
    (closed : List GroupValue) (v : TransmissionValue) (whole : List TransmissionValue) (rest : List Item) (s : Splitting W)
    (now after : O)
    → HoldsStage told (Between o closed) s now → RemainsBetween s.limits s.size v whole o closed rest
    → (held : Option (SplitOutput W)) → s.output ≡ held → IsHandedOver told s.limits held now after
    → AddsTexts (told.texts now) (told.texts after) (map canonical_text (last_of o closed)) × CountsNone told now after
    × ((report_after s.report held).outputs ≡ s.report.outputs + length (last_of o closed))
    × ((report_after s.report held).transactions ≡ s.report.transactions)
last_handed_over told o closed v whole rest s now after had p None e quiet =
    let none : closed ≡ [] = none_closed closed p.part (sym had.count ∙ ap open_count e) in
    subst (λ (c : List GroupValue). AddsTexts (told.texts now) (told.texts after) (map canonical_text (last_of o c))
    × CountsNone told now after × (s.report.outputs ≡ s.report.outputs + length (last_of o c))
    × (s.report.transactions ≡ s.report.transactions)) (sym none) (
      adds_none (told.texts now) (told.texts after) quiet.texts,
      record { failures = quiet.failures; given_up = quiet.given_up },
      omega arith,
      refl,
    )
last_handed_over {W = W} told o closed v whole rest s now after had p (Some out) e taken =
    let there : 0 < length closed = some_closed closed (some_open s.output out (total_in closed) e had.none) in
    let right = closed_right s.limits s.size v whole o closed rest p there in
    let items : List Item = open_items (Between o closed) in
    let output =
    subst (λ (x : Option (SplitOutput W)). HoldsOutput told.contents told.writer_failures s.limits (told.texts now) items x) e
    had.output in
    let all : value_items (value_of o closed) ≡ items ++ end_of out ++ Ended ∷ [] =
    ap (λ (l : List Item). l ++ Ended ∷ []) (sym (items_closed o closed there) ∙ sym (append-nil items)
    ∙ ap (λ (l : List Item). items ++ l) (sym (no_end out (sym (ap has_open_group e) ∙ had.group)))) in
    subst (λ (l : List TransmissionValue). AddsTexts (told.texts now) (told.texts after) (map canonical_text l)
    × CountsNone told now after × (s.report.outputs + 1 ≡ s.report.outputs + length l)
    × (s.report.transactions ≡ s.report.transactions)) (sym (some_last o closed there))
    (taken.1 items (value_of o closed) output right.0 all, taken.0, omega arith, refl)

pub end_taken : {O W : Type 0} (told : Told O W) (u : Unit {0})
    (s new : Splitting W) (now after : O) → FinishesOutput told (Ok u) s new now after
    → (may : MayTake told Ended s now) → IsTaken told
    (split_stage_after s.size may.stage Ended) (parts_at s.size may.stage Ended) Ended s new now after
end_taken {W = W} told u s new now after done may =
    let at = at_item s.limits s.size may.value may.whole may.stage Ended may.rest may.remains in
    let had = subst (λ (q : SplitStage). HoldsStage told q s now) at.2 may.holds in
    let last =
    last_handed_over told at.0 at.1 may.value may.whole (Ended ∷ may.rest) s now after had at.3 s.output
    refl done.1 in
    subst (λ (q : SplitStage). IsTaken told (split_stage_after s.size q Ended) (parts_at s.size q Ended) Ended s
    new now after) (sym at.2)
    (subst (λ (m : Splitting W). IsTaken told Over (last_of at.0 at.1) Ended s m now after) (sym done.0)
    (record {
      holds = record { opening = tt; head = tt; output = refl; count = refl; group = refl; none = λ e. refl; counted = tt };
      texts = last.0;
      counts = last.1;
      limits = refl;
      size = refl;
      outputs = last.2;
      transactions = omega (arith, last.3);
    }))
