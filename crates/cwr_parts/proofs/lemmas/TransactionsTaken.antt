-- A split takes a transaction: the open output continues with it, or is whole and handed over.
use Rattle.std.proofs.Common.{◌≡◌, ◌≢◌, ℕ, ◌+◌, ◌*◌, ◌<◌, ◌≤◌, zero, suc, Bool, true, false, inl, inr, List, [], ◌∷◌, ◌++◌}
use Rattle.std.proofs.Common.{length, Option, Some, None, refl, sym, ap, subst, ◌∙◌, append_assoc, arith}
use Rattle.std.specs.Prelude.{◌==◌, if◌then◌else◌, Ok}
use Rattle.std.proofs.lemmas.Bool.{eq-eqb}
use Rattle.std.proofs.lemmas.Bool.Decides.{eqb_tells}
use Rattle.std.proofs.lemmas.List.{length-append}
use native.Mathlib.Nat.{add-mul}
use Rattle.cwr_lines.specs.Format.Records.{RecordValue}
use Rattle.cwr_values.specs.declared.items.Item.{Item}
use Rattle.cwr_values.specs.declared.items.Item.TheVariants.{Opened, GroupOpened, Transaction, Ended}
use Rattle.cwr_values.specs.Format.Values.{GroupValue, TransmissionValue, IsTransmission}
use Rattle.cwr_judge.specs.Format.Items.{value_items}
use Rattle.cwr_parts.specs.declared.splitting.Splitting.{Splitting}
use Rattle.cwr_parts.specs.Steps.SplitOutputs.{IsOutput, Told, blank_end}
use Rattle.cwr_parts.specs.Steps.SplitStages.{ArePartGroups, SplitStage, Inside, open_items, part_group, parts_at}
use Rattle.cwr_parts.specs.Steps.SplitStages.{split_stage_after, total_in, value_of}
use Rattle.cwr_parts.specs.Steps.SplitItems.{HoldsStage, IsTaken, MayTake, is_in_group}
use Rattle.cwr_parts.specs.Steps.SplitSteps.{AddsTransaction, GoesOn, FillsOutput, MayAddTransaction, items_with}
use Rattle.cwr_parts.proofs.lemmas.StagesHeld.{begun, items_begun, items_of_part, with_transaction}
use Rattle.cwr_parts.proofs.lemmas.StagesLeft.{part_right}
use Rattle.cwr_parts.proofs.lemmas.StagesOfItems.{adds_none, at_item}

-- ---- a transaction

-- no fewer than one each
pub no_fewer : (k n : ℕ) → 0 < n → k ≤ k * n
no_fewer zero n some = omega arith
no_fewer (suc k) n some = omega (arith, no_fewer k n some, add-mul k 1 n)

pub may_add : {O W : Type 0} (told : Told O W) (t : List RecordValue)
    (s : Splitting W) (now : O) → MayTake told (Transaction t) s now
    → MayAddTransaction told (Transaction t) s now
may_add told t s now may =
    let at = at_item s.limits s.size may.value may.whole may.stage (Transaction t) may.rest may.remains in
    let o : RecordValue = at.0 in
    let closed : List GroupValue = at.1 in
    let h : RecordValue = at.2 in
    let cur : List (List RecordValue) = at.3 in
    let p = at.5 in
    let had = subst (λ (q : SplitStage). HoldsStage told q s now) at.4 may.holds in
    let part : TransmissionValue = value_of o (closed ++ part_group h (cur ++ t ∷ []) ∷ []) in
    let right = part_right s.limits s.size may.value may.whole o closed h cur (Transaction t) may.rest p t at.6 at.7 in
    let items : List Item = items_with (open_items (Inside o closed h cur)) (Opened o) (GroupOpened h) (Transaction t) s.output in
    let same : items ≡ begun o closed h (cur ++ t ∷ []) =
    with_transaction o closed h cur t s.output p.part had.count had.group had.none in
    let all : value_items part ≡ (items ++ blank_end ∷ []) ++ Ended ∷ [] =
    items_of_part o closed h (cur ++ t ∷ []) ∙ ap (λ (l : List Item). (l ++ blank_end ∷ []) ++ Ended ∷ []) (sym same) in
    let each : ℕ = s.report.outputs * s.size in
    let counted : each + (total_in closed + length cur) ≡ s.report.transactions = had.counted in
    record {
      items = open_items (Inside o closed h cur);
      opening = Opened o;
      head = GroupOpened h;
      held = had.output;
      opening_is = had.opening;
      head_is = had.head;
      opens = λ e. absurd (cc e);
      heads = λ e. absurd (cc e);
      few = omega (arith, had.count, counted, may.room);
      room = may.room;
      outputs = omega (arith, no_fewer s.report.outputs s.size may.some, counted, may.room);
      first =
          record {
            value = part;
            whole = right.0;
            within = right.1;
            rest = blank_end ∷ Ended ∷ [];
            split = all ∙ append_assoc items (blank_end ∷ []) (Ended ∷ []);
          };
      full = λ e. record { value = part; whole = right.0; within = right.1; items_are = all };
    }

same_item : (o : Option Item) (a b : Item) → o ≡ Some a → o ≡ Some b → a ≡ b
same_item o a b e f = let g : Some a ≡ Some b = sym e ∙ f in cc

in_group_with : (o : RecordValue) (closed : List GroupValue) (h : RecordValue) (cur : List (List RecordValue))
    (t : List RecordValue) → is_in_group (Inside o closed h (cur ++ t ∷ [])) ≡ true
in_group_with o closed h [] t = refl
in_group_with o closed h (x ∷ cur) t = refl

-- the open output continues with it
went_on : {O W : Type 0} (told : Told O W) (o : RecordValue)
    (closed : List GroupValue) (h : RecordValue) (cur : List (List RecordValue)) (t : List RecordValue) (s new : Splitting W)
    (now after : O) → ArePartGroups closed
    → HoldsStage told (Inside o closed h cur) s now
    → GoesOn told (Opened o) (GroupOpened h) (Transaction t) s new now after
    → IsTaken told (Inside o closed h (cur ++ t ∷ [])) [] (Transaction t) s new now after
went_on {W = W} told o closed h cur t s new now after part had g =
    let next : Splitting W =
    record s
    { output = Some g.out; report = record { outputs = s.report.outputs; transactions = s.report.transactions + 1 } } in
    let stage : SplitStage = Inside o closed h (cur ++ t ∷ []) in
    let same =
    with_transaction o closed h cur t s.output part had.count had.group had.none
    ∙ sym (items_begun o closed h (cur ++ t ∷ []) (omega (arith, length-append cur (t ∷ [])))) in
    let out =
    subst (λ (l : List Item). IsOutput told.contents told.writer_failures s.limits (told.texts now) l g.out) same
    (g.held (open_items (Inside o closed h cur)) had.output) in
    subst (λ (m : Splitting W). IsTaken told stage [] (Transaction t) s m now after) (sym g.now) (record {
      holds = record {
        opening = had.opening;
        head = had.head;
        output =
            subst
            (λ (x : Option (List (List ℕ))). IsOutput told.contents told.writer_failures s.limits x (open_items stage) g.out)
            (sym g.quiet.texts) out;
        count = omega (arith, g.counted, had.count, length-append cur (t ∷ []));
        group = g.group ∙ sym (in_group_with o closed h cur t);
        none = λ e. absurd (omega (arith, e, length-append cur (t ∷ [])));
        counted = omega (arith, had.counted, length-append cur (t ∷ []));
      };
      texts = adds_none (told.texts now) (told.texts after) g.quiet.texts;
      counts = record { failures = g.quiet.failures; given_up = g.quiet.given_up };
      limits = refl;
      size = refl;
      outputs = omega arith;
      transactions = omega arith;
    })

-- it is whole with it
was_filled : {O W : Type 0} (told : Told O W) (o : RecordValue)
    (closed : List GroupValue) (h : RecordValue) (cur : List (List RecordValue)) (t : List RecordValue) (s new : Splitting W)
    (now after : O) → ArePartGroups closed
    → IsTransmission (value_of o (closed ++ part_group h (cur ++ t ∷ []) ∷ []))
    → HoldsStage told (Inside o closed h cur) s now
    → FillsOutput told (Opened o) (GroupOpened h) (Transaction t) s new now after
    → IsTaken told (Inside o [] h []) (value_of o (closed ++ part_group h (cur ++ t ∷ []) ∷ []) ∷ [])
    (Transaction t) s new now after
was_filled {W = W} told o closed h cur t s new now after part right had f =
    let next : Splitting W =
    record s
    { output = None; report = record { outputs = s.report.outputs + 1; transactions = s.report.transactions + 1 } } in
    let whole : TransmissionValue = value_of o (closed ++ part_group h (cur ++ t ∷ []) ∷ []) in
    let items : List Item = items_with (open_items (Inside o closed h cur)) (Opened o) (GroupOpened h) (Transaction t) s.output in
    let same : items ≡ begun o closed h (cur ++ t ∷ []) =
    with_transaction o closed h cur t s.output part had.count had.group had.none in
    let all : value_items whole ≡ items ++ blank_end ∷ [] ++ Ended ∷ [] =
    items_of_part o closed h (cur ++ t ∷ []) ∙ ap (λ (l : List Item). (l ++ blank_end ∷ []) ++ Ended ∷ []) (sym same) in
    subst (λ (m : Splitting W). IsTaken told (Inside o [] h []) (whole ∷ []) (Transaction t) s m now after)
    (sym f.now) (record {
      holds = record {
        opening = had.opening;
        head = had.head;
        output = refl;
        count = refl;
        group = refl;
        none = λ e. refl;
        counted = omega (arith, had.counted, had.count, f.all, add-mul s.report.outputs 1 s.size);
      };
      texts = f.text (open_items (Inside o closed h cur)) whole had.output right all;
      counts = f.counts;
      limits = refl;
      size = refl;
      outputs = omega arith;
      transactions = omega arith;
    })

pub transaction_taken : {O W : Type 0} (told : Told O W) (t : List RecordValue)
    (u : Unit {0}) (s new : Splitting W) (now after : O) → AddsTransaction told (Transaction t) (Ok u) s new now
    after
    → (may : MayTake told (Transaction t) s now) → IsTaken told
    (split_stage_after s.size may.stage (Transaction t)) (parts_at s.size may.stage (Transaction t)) (Transaction t) s new now
    after
transaction_taken {W = W} told t u s new now after done may =
    let at = at_item s.limits s.size may.value may.whole may.stage (Transaction t) may.rest may.remains in
    let o : RecordValue = at.0 in
    let closed : List GroupValue = at.1 in
    let h : RecordValue = at.2 in
    let cur : List (List RecordValue) = at.3 in
    let p = at.5 in
    let had = subst (λ (q : SplitStage). HoldsStage told q s now) at.4 may.holds in
    let whole : TransmissionValue = value_of o (closed ++ part_group h (cur ++ t ∷ []) ∷ []) in
    let right = part_right s.limits s.size may.value may.whole o closed h cur (Transaction t) may.rest p t at.6 at.7 in
    let opening : done.0 ≡ Opened o = same_item s.opening done.0 (Opened o) done.2 had.opening in
    let head : done.1 ≡ GroupOpened h = same_item s.head done.1 (GroupOpened h) done.3 had.head in
    let Next =
    λ (b : Bool). IsTaken told (if b then Inside o [] h [] else Inside o closed h (cur ++ t ∷ []))
    (if b then whole ∷ [] else []) (Transaction t) s new now after in
    subst (λ (q : SplitStage). IsTaken told (split_stage_after s.size q (Transaction t))
    (parts_at s.size q (Transaction t)) (Transaction t) s new now after) (sym at.4)
    (elim (done.4) as (λ _. Next ((total_in closed + length cur + 1) == s.size)) [
      | inl g ↦
          let on =
          subst (λ (i : Item). GoesOn told i (GroupOpened h) (Transaction t) s new now after) opening
          (subst (λ (i : Item). GoesOn told done.0 i (Transaction t) s new now after) head g) in
          subst Next (sym (not_full (total_in closed + length cur + 1) s.size (λ e. on.few (omega (arith, e, had.count)))))
          (went_on told o closed h cur t s new now after p.part had on)
      | inr f ↦
          let all =
          subst (λ (i : Item). FillsOutput told i (GroupOpened h) (Transaction t) s new now after) opening
          (subst (λ (i : Item). FillsOutput told done.0 i (Transaction t) s new now after) head f) in
          subst Next (sym (eq-eqb (total_in closed + length cur + 1) s.size (omega (arith, all.all, had.count))))
          (was_filled told o closed h cur t s new now after p.part right.0 had all)
    ])
  where
    not_full : (n m : ℕ) → n ≢ m → (n == m) ≡ false
    not_full n m other = elim (eqb_tells n m) as (λ _. (n == m) ≡ false) [ inl y ↦ absurd (other y.1) | inr k ↦ k.0 ]
