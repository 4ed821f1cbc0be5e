-- The open output of a split: it is opened, its group ends, and it is handed over.
use Rattle.std.proofs.Common.{◌≡◌, ◌+◌, ℕ, true, false, List, [], ◌∷◌, ◌++◌, Option, Some, None, refl, sym, ap, subst, ◌∙◌}
use Rattle.std.specs.Prelude.{IfSome, Ok}
use Rattle.std.specs.Option.{is_some}
use Rattle.cwr_shape.specs.Format.Ranges.{LimitValues}
use Rattle.cwr_values.specs.declared.items.Item.{Item}
use Rattle.cwr_judge.specs.Format.Items.{AreFirstItems, records_in}
use Rattle.cwr_values.specs.declared.items.Item.TheVariants.{Ended}
use Rattle.cwr_encode.specs.Steps.Encoders.{Encodes, is_stopped, encoder_limits, target_of}
use Rattle.cwr_parts.specs.declared.split_output.SplitOutput.{SplitOutput}
use Rattle.cwr_parts.specs.declared.splitting.Splitting.{Splitting}
use Rattle.cwr_parts.specs.Steps.SplitOutputs.{HoldsOutput, IsOutput, IsQuiet, MayEnd, MayHandOver, TakesOutput, Told, end_of}
use Rattle.cwr_parts.specs.Steps.SplitOutputs.{open_count}
use Rattle.cwr_parts.specs.Steps.SplitSteps.{IsHandedOver, IsOpen, IsOutside, IsOutsideOpen, FinishesOutput, MayEndGroup}
use Rattle.cwr_parts.specs.Steps.SplitSteps.{MayEndHeld, MayFinish, holding, has_open_group, report_after}

-- ---- an output is open

pub one_there : {A : Type 0} (o : Option A) → true ≡ is_some o → (x : A) × (o ≡ Some x)
one_there None e = absurd (cc)
one_there (Some x) e = (x, refl)

pub none_there : {A : Type 0} (o : Option A) → false ≡ is_some o → o ≡ None
none_there None e = refl
none_there (Some x) e = absurd (cc)

pub already_open : {O W : Type 0} (told : Told O W) (s : Splitting W)
    (before : O) (out : SplitOutput W) → s.output ≡ Some out → IsOpen told s s before before
already_open told s before out e = record {
  out = out;
  now = ap (holding s) e;
  quiet = record { texts = refl; failures = refl; given_up = refl };
  held = λ items h. subst (HoldsOutput told.contents told.writer_failures s.limits (told.texts before) items) e h;
  counted = sym (ap open_count e);
  group = sym (ap has_open_group e);
}

pub newly_open : {O W : Type 0} (told : Told O W) (s : Splitting W)
    (before after : O) (writer : W) (out : SplitOutput W) → s.output ≡ None
    → IfSome (told.texts before) (λ _. told.contents writer ≡ Some []) → told.writer_failures writer ≡ 0
    → IsQuiet told before after
    → Encodes told.contents (told.contents writer) [] out.encoder → encoder_limits out.encoder ≡ s.limits
    → is_stopped out.encoder ≡ false
    → target_of out.encoder ≡ writer → out.transactions ≡ 0 → out.in_group ≡ false
    → IsOpen told s (holding s (Some out)) before after
newly_open told s before after writer out e empty quiet same encodes limits unfailed target none outside =
    record {
      out = out;
      now = refl;
      quiet = same;
      held = λ items h.
          let no_items : items ≡ [] =
          subst (HoldsOutput told.contents told.writer_failures s.limits (told.texts before) items) e h in
          record {
            start = told.contents writer;
            empty = empty;
            encodes =
                subst (λ (l : List Item). Encodes told.contents (told.contents writer) (records_in l) out.encoder) (sym no_items)
                encodes;
            unfailed = unfailed;
            quiet = ap told.writer_failures target ∙ quiet;
            limits_are = limits;
          };
      counted = none ∙ sym (ap open_count e);
      group = outside ∙ sym (ap has_open_group e);
    }

-- ---- its group ends

pub was_open : {W : Type 0} (contents : W → Option (List ℕ)) (failures : W → ℕ) (a b : Option (SplitOutput W))
    (out : SplitOutput W) → IsOutsideOpen contents failures a b → b ≡ Some out
    → (old : SplitOutput W) × (a ≡ Some old) × IsOutside contents failures old out
was_open contents failures None None out h e = absurd (cc)
was_open contents failures None (Some y) out h e = absurd h
was_open contents failures (Some x) None out h e = absurd h
was_open contents failures (Some x) (Some y) out h e =
    let same : y ≡ out = (cc) in (x, refl, subst (IsOutside contents failures x) same h)

-- it had the items, and what ended its group
pub ended_output : {W : Type 0} (contents : W → Option (List ℕ)) (failures : W → ℕ) (limits : LimitValues)
    (had : Option (List (List ℕ))) (items : List Item) (old out : SplitOutput W) → IsOutput contents failures limits had items old
    → IsOutside contents failures old out → IsOutput contents failures limits had (items ++ end_of old) out
ended_output contents failures limits had items old out p h = record {
  start = p.start;
  empty = p.empty;
  encodes = h.puts.more p.start items p.encodes;
  unfailed = h.puts.unfailed;
  quiet = h.puts.quiet ∙ p.quiet;
  limits_are = h.puts.limits ∙ p.limits_are;
}

may_end_held : {W : Type 0} (contents : W → Option (List ℕ)) (failures : W → ℕ) (limits : LimitValues)
    (had : Option (List (List ℕ))) (items : List Item) (a : Option (SplitOutput W)) → HoldsOutput contents failures limits had
    items a
    → MayEndHeld limits items a → MayEndGroup contents a
may_end_held contents failures limits had items None h ends = tt
may_end_held contents failures limits had items (Some out) h ends = (
  h.unfailed,
  record {
    start = h.start;
    items = items;
    encodes = h.encodes;
    first = subst (λ (l : LimitValues). AreFirstItems l (items ++ end_of out)) (sym h.limits_are)
        (record { value = ends.value; whole = ends.whole; within = ends.within; rest = Ended ∷ []; split = ends.items_are });
  },
)

-- its group may end
pub may_end_group : {O W : Type 0} (told : Told O W) (s : Splitting W)
    (before : O) → MayFinish told s before → MayEndGroup told.contents s.output
may_end_group told s before may =
    may_end_held told.contents told.writer_failures s.limits (told.texts before) may.items s.output may.held may.ends

-- and it may be handed over
pub may_hand_over : {O W : Type 0} (told : Told O W) (s mid : Splitting W)
    (before : O) (out : SplitOutput W) → MayFinish told s before
    → IsOutsideOpen told.contents told.writer_failures s.output mid.output → mid.output ≡ Some out → MayHandOver told.contents out
may_hand_over told s mid before out may outside e =
    let was = was_open told.contents told.writer_failures s.output mid.output out outside e in
    let held = subst (HoldsOutput told.contents told.writer_failures s.limits (told.texts before) may.items) was.1 may.held in
    let ended = ended_output told.contents told.writer_failures s.limits (told.texts before) may.items was.0 out held was.2 in
    record {
      start = ended.start;
      items = may.items ++ end_of was.0;
      encodes = ended.encodes;
      ends =
          subst (λ (l : LimitValues). MayEnd l (may.items ++ end_of was.0)) (sym ended.limits_are)
          (subst (MayEndHeld s.limits may.items) was.1 may.ends);
    }

-- ---- it is handed over

pub finished : {O W : Type 0} (told : Told O W) (s mid : Splitting W)
    (before after : O) (out : SplitOutput W) (left : Option (SplitOutput W)) → mid ≡ holding s mid.output
    → IsOutsideOpen told.contents told.writer_failures s.output mid.output → mid.output ≡ Some out → left ≡ None
    → TakesOutput told out before after
    → FinishesOutput told (Ok tt) s (record mid {
      output = left;
      report = record { outputs = mid.report.outputs + 1; transactions = mid.report.transactions };
    }) before after
finished {W = W} told s mid before after out left same outside e gone taken =
    let was = was_open told.contents told.writer_failures s.output mid.output out outside e in
    let ended : Splitting W → Option (SplitOutput W) → Splitting W =
    λ m o. record m
    { output = o; report = record { outputs = m.report.outputs + 1; transactions = m.report.transactions } } in (
      ap (ended mid) gone ∙ ap (λ (m : Splitting W). ended m None) same
          ∙ ap (λ (o : Option (SplitOutput W)). record s { output = None; report = report_after s.report o }) (sym was.1),
      subst (λ (o : Option (SplitOutput W)). IsHandedOver told s.limits o before after) (sym was.1) (
        taken.counts,
        λ items w h whole w_items.
            let k = ended_output told.contents told.writer_failures s.limits (told.texts before) items was.0 out h was.2 in
            taken.text k.start (items ++ end_of was.0) w k.encodes whole w_items k.empty,
      ),
    )
