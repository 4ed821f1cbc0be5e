-- A transaction is added to the open output of a split, which is opened for it or finished with it.
use Rattle.std.proofs.Common.{◌≡◌, ◌≢◌, ◌+◌, ◌<◌, ℕ, Bool, true, false, inl, inr, List, [], ◌∷◌, ◌++◌, Option, Some, None, sym}
use Rattle.std.proofs.Common.{ap, ap₂, subst, ◌∙◌, append_assoc}
use Rattle.std.specs.Prelude.{Result, Ok, Err, ◌==◌, if◌then◌else◌}
use Rattle.std.proofs.lemmas.Bool.{eq-eqb}
use Rattle.std.proofs.lemmas.Bool.Decides.{eqb_tells}
use Rattle.cwr_devices.specs.Format.Failures.{one_more_failure}
use Rattle.cwr_shape.specs.Format.Ranges.{LimitValues}
use Rattle.cwr_values.specs.declared.items.Item.{Item}
use Rattle.cwr_values.specs.declared.items.Item.TheVariants.{Ended}
use Rattle.cwr_judge.specs.Format.Items.{AreFirstItems}
use Rattle.cwr_parts.specs.declared.split_output.SplitOutput.{SplitOutput}
use Rattle.cwr_parts.specs.declared.splitting.Splitting.{Splitting}
use Rattle.cwr_tools.specs.declared.verdicts.ToolFault.{ToolFault}
use Rattle.cwr_tools.specs.declared.verdicts.ToolFault.TheVariants as tool_faults
use Rattle.cwr_values.specs.Format.Rows.{canonical_text}
use Rattle.cwr_devices.specs.Format.Outputs.{AddsText, given_up_with}
use Rattle.cwr_parts.specs.Format.Splitting.{CountsSplitOutput, CountsSplitWriter}
use Rattle.cwr_parts.specs.Steps.SplitOutputs.{FailsWith, HoldsOutput, IsOutput, IsQuiet, MayEnd, PutsOn, Told, blank_end, end_of}
use Rattle.cwr_parts.specs.Steps.SplitOutputs.{front_of, open_count, open_failures, open_front}
use Rattle.cwr_parts.specs.Steps.SplitSteps.{AddsTransaction, FailsOpen, FinishesOutput, GoesOn, FillsOutput, IsOpen, IsWritten}
use Rattle.cwr_parts.specs.Steps.SplitSteps.{MayAddTransaction, MayFinish, MayWrite, has_all, items_with, has_open_group}
use Rattle.cwr_parts.proofs.lemmas.OutputAdded.{head_first, opening_first}

-- what is written before it, as it would be to the one that was open
same_front : {W : Type 0} (opening head : Item) (held : Option (SplitOutput W)) (out : SplitOutput W)
    → out.transactions ≡ open_count held → out.in_group ≡ has_open_group held
    → front_of opening head out ≡ open_front opening head held
same_front opening head None out e f = ap₂ (λ (x y : List Item). x ++ y) (opening_first opening out e) (head_first head out f)
same_front opening head (Some o) out e f =
    ap₂ (λ (n : ℕ) (b : Bool). (if n == 0 then opening ∷ [] else []) ++ (if b then [] else head ∷ [])) e f

-- the open output has it
wrote : {W : Type 0} (contents : W → Option (List ℕ)) (failures : W → ℕ) (limits : LimitValues) (had : Option (List (List ℕ)))
    (items added : List Item) (old out : SplitOutput W) → IsOutput contents failures limits had items old
    → PutsOn contents failures added old.encoder out.encoder → IsOutput contents failures limits had (items ++ added) out
wrote contents failures limits had items added old out p h = record {
  start = p.start;
  empty = p.empty;
  encodes = h.more p.start items p.encodes;
  unfailed = h.unfailed;
  quiet = h.quiet ∙ p.quiet;
  limits_are = h.limits ∙ p.limits_are;
}

-- it may be written
pub may_write : {O W : Type 0} (told : Told O W) (item : Item)
    (s mid : Splitting W) (before after : O) → MayAddTransaction told item s before
    → IsOpen told s mid before after → MayWrite told.contents item mid
may_write {W = W} told item s mid before after may p =
    let held = p.held may.items may.held in
    record {
      opening = may.opening;
      head = may.head;
      out = p.out;
      opening_is = ap (λ (m : Splitting W). m.opening) p.now ∙ may.opening_is;
      head_is = ap (λ (m : Splitting W). m.head) p.now ∙ may.head_is;
      open_is = ap (λ (m : Splitting W). m.output) p.now;
      opens = may.opens;
      heads = may.heads;
      few = subst (λ (n : ℕ). n < 199999999) (sym p.counted) may.few;
      unfailed = held.unfailed;
      may = record {
        start = held.start;
        items = may.items;
        encodes = held.encodes;
        first =
            subst (λ (l : LimitValues). AreFirstItems l (may.items ++ (front_of may.opening may.head p.out ++ item ∷ [])))
            (sym held.limits_are)
            (subst (AreFirstItems s.limits)
            (append_assoc may.items (open_front may.opening may.head s.output) (item ∷ []) ∙ ap
            (λ (l : List Item). may.items ++ (l ++ item ∷ []))
            (sym (same_front may.opening may.head s.output p.out p.counted p.group))) may.first);
      };
    }

-- its writer failed
pub write_failed : {O W : Type 0} (told : Told O W) (item : Item)
    (s mid new : Splitting W) (before after : O) (fault : ToolFault) → MayAddTransaction told item s before
    → IsOpen told s mid before after → FailsOpen told.writer_failures fault mid.output new.output
    → FailsWith told fault (open_failures told.writer_failures new.output) before after
write_failed {O = O} {W = W} told item s mid new before after fault may p h = by fault h
  where
    quiet : open_failures told.writer_failures mid.output ≡ 0
    quiet = ap (λ (m : Splitting W). open_failures told.writer_failures m.output) p.now ∙ (p.held may.items may.held).quiet

    by : (fault : ToolFault) → FailsOpen told.writer_failures fault mid.output new.output
        → FailsWith told fault (open_failures told.writer_failures new.output) before after
    by (tool_faults.Writer n) h =
        subst (λ (k : ℕ). FailsWith told (tool_faults.Writer n) k before after) (sym (h ∙ ap one_more_failure quiet)) (record {
          is = tt;
          texts = p.quiet.texts;
          failed = p.quiet.failures;
          given_up = ap one_more_failure p.quiet.given_up;
        })
    by tool_faults.Reader h = absurd h
    by tool_faults.Memory h = absurd h
    by (tool_faults.Refused r) h = absurd h
    by (tool_faults.Truncated r) h = absurd h
    by tool_faults.Output h = absurd h
    by (tool_faults.Limit l) h = absurd h

-- ---- it was written

-- what one that is open has then
pub record HasAdded {O W : Type 0} (told : Told O W) (opening head item : Item)
    (s next : Splitting W) (before : O) : Type 0 where
  pub opening_is : s.opening ≡ Some opening
  pub head_is : s.head ≡ Some head
  pub out : SplitOutput W
  pub now : next
      ≡ record s { output = Some out; report = record { outputs = s.report.outputs; transactions = s.report.transactions + 1 } }
  pub held : (items : List Item) → HoldsOutput told.contents told.writer_failures s.limits (told.texts before) items s.output
      → IsOutput told.contents told.writer_failures s.limits (told.texts before) (items_with items opening head item s.output) out
  pub counted : out.transactions ≡ open_count s.output + 1
  pub group : out.in_group ≡ true

pub has_added : {O W : Type 0} (told : Told O W) (item : Item)
    (s mid next : Splitting W) (before after : O) (p : IsOpen told s mid before after)
    → (h : IsWritten told.contents told.writer_failures item mid next)
    → HasAdded told h.opening h.head item s next before
has_added {W = W} told item s mid next before after p h =
    let opened : mid.output ≡ Some p.out = ap (λ (m : Splitting W). m.output) p.now in
    let there : Some p.out ≡ Some h.out = sym opened ∙ h.open_is in
    let same : p.out ≡ h.out = (cc) in
    record {
      opening_is = sym (ap (λ (m : Splitting W). m.opening) p.now) ∙ h.opening_is;
      head_is = sym (ap (λ (m : Splitting W). m.head) p.now) ∙ h.head_is;
      out = h.added;
      now =
          h.now ∙ ap (λ (m : Splitting W). record m {
            output = Some h.added;
            report = record { outputs = m.report.outputs; transactions = m.report.transactions + 1 };
          }) p.now;
      held = λ items k.
          let before_it =
          subst (IsOutput told.contents told.writer_failures s.limits (told.texts before) items) same (p.held items k) in
          subst (λ (l : List Item). IsOutput told.contents told.writer_failures s.limits (told.texts before) l h.added)
          (sym (append_assoc items (front_of h.opening h.head h.out) (item ∷ []))
          ∙ ap (λ (l : List Item). items ++ l ++ item ∷ [])
          (sym (ap (front_of h.opening h.head) same) ∙ same_front h.opening h.head s.output p.out p.counted p.group))
          (wrote told.contents told.writer_failures s.limits (told.texts before) items
          (front_of h.opening h.head h.out ++ item ∷ []) h.out h.added
          before_it h.puts);
      counted = h.counted ∙ ap (λ (n : ℕ). n + 1) (sym (ap (λ (o : SplitOutput W). o.transactions) same) ∙ p.counted);
      group = h.group;
    }

closed_end : {W : Type 0} (out : SplitOutput W) → out.in_group ≡ true → end_of out ≡ blank_end ∷ []
closed_end out e = ap (λ (b : Bool). if b then blank_end ∷ [] else []) e

-- ---- it is not full

none_full : (n m : ℕ) → false ≡ (n == m) → n ≢ m
none_full n m e f = absurd (let g : (n == m) ≡ true = eq-eqb n m f in cc)

all_full : (n m : ℕ) → true ≡ (n == m) → n ≡ m
all_full n m e = elim (eqb_tells n m) as (λ _. n ≡ m) [ inl y ↦ y.1 | inr k ↦ absurd (let g : (n == m) ≡ false = k.0 in cc) ]

test_is : {O W : Type 0} (told : Told O W) (opening head item : Item)
    (s next : Splitting W) (before : O) → HasAdded told opening head item s next before
    → has_all next.size next.output ≡ ((open_count s.output + 1) == s.size)
test_is {W = W} told opening head item s next before h =
    ap (λ (m : Splitting W). has_all m.size m.output) h.now ∙ ap (λ (n : ℕ). n == s.size) h.counted

pub went_on : {O W : Type 0} (told : Told O W) (item : Item)
    (s mid next : Splitting W) (before after : O) → IsOpen told s mid before after
    → IsWritten told.contents told.writer_failures item mid next → false ≡ has_all next.size next.output
    → AddsTransaction told item (Ok tt) s next before after
went_on told item s mid next before after p w e =
    let h = has_added told item s mid next before after p w in
    let on : GoesOn told w.opening w.head item s next before after = record {
      few = none_full (open_count s.output + 1) s.size (e ∙ test_is told w.opening w.head item s next before h);
      out = h.out;
      now = h.now;
      quiet = p.quiet;
      held = h.held;
      counted = h.counted;
      group = h.group;
    } in
    (w.opening, w.head, h.opening_is, h.head_is, inl on)

-- ---- it is full

same_item : (o : Option Item) (a b : Item) → o ≡ Some a → o ≡ Some b → a ≡ b
same_item o a b e f = let g : Some a ≡ Some b = sym e ∙ f in cc

pub may_finish : {O W : Type 0} (told : Told O W) (item : Item)
    (s mid next : Splitting W) (before after : O) → MayAddTransaction told item s before
    → IsOpen told s mid before after → IsWritten told.contents told.writer_failures item mid next
    → true ≡ has_all next.size next.output → MayFinish told next after
may_finish {W = W} told item s mid next before after may p w e =
    let h = has_added told item s mid next before after p w in
    let full : open_count s.output + 1 ≡ s.size =
    all_full (open_count s.output + 1) s.size (e ∙ test_is told w.opening w.head item s next before h) in
    let items : List Item = items_with may.items w.opening w.head item s.output in
    let had =
    subst (λ (t : Option (List (List ℕ))). IsOutput told.contents told.writer_failures s.limits t items h.out) (sym p.quiet.texts)
    (h.held may.items may.held) in
    let right : items_with may.items may.opening may.head item s.output ≡ items
    = ap₂ (λ (o g : Item). items_with may.items o g item s.output)
    (same_item s.opening may.opening w.opening may.opening_is h.opening_is)
    (same_item s.head may.head w.head may.head_is h.head_is) in
    let ends : MayEnd s.limits (items ++ end_of h.out) =
    subst (λ (l : List Item). MayEnd s.limits l) (ap₂ (λ (x y : List Item). x ++ y) right (sym (closed_end h.out h.group)))
    (may.full full) in
    subst (λ (m : Splitting W). MayFinish told m after) (sym h.now)
    (record { items = items; held = had; ends = ends })

pub room_for_one : {O W : Type 0} (told : Told O W) (item : Item)
    (s mid next : Splitting W) (before after : O) → MayAddTransaction told item s before
    → IsOpen told s mid before after → IsWritten told.contents told.writer_failures item mid next
    → next.report.outputs < 199999999
room_for_one {W = W} told item s mid next before after may p w =
    let h = has_added told item s mid next before after p w in
    subst (λ (m : Splitting W). m.report.outputs < 199999999) (sym h.now) may.outputs

pub fails_after : {O W : Type 0} (told : Told O W) (fault : ToolFault) (pending : ℕ) (before mid after : O)
    → IsQuiet told before mid
    → FailsWith told fault pending mid after → FailsWith told fault pending before after
fails_after told fault pending before mid after quiet f = record {
  is = f.is;
  texts = f.texts ∙ quiet.texts;
  failed = subst (λ (n : ℕ). CountsSplitOutput {A = Unit {0}} (Err fault) n (told.failures after)) quiet.failures f.failed;
  given_up =
      subst (λ (n : ℕ). CountsSplitWriter {A = Unit {0}} (Err fault) n (given_up_with pending (told.given_up after)))
      quiet.given_up f.given_up;
}

pub filled : {O W : Type 0} (told : Told O W) (item : Item)
    (s mid next new : Splitting W) (before between after : O) (answer : Result (Unit {0}) ToolFault)
    → IsOpen told s mid before between
    → IsWritten told.contents told.writer_failures item mid next → true ≡ has_all next.size next.output
    → FinishesOutput told answer next new between after
    → AddsTransaction told item answer s new before after
filled told item s mid next new before between after (Err fault) p w e f =
    fails_after told fault (open_failures told.writer_failures new.output) before between after p.quiet f
filled {W = W} told item s mid next new before between after (Ok u) p w e f =
    let h = has_added told item s mid next before between p w in
    let done = subst (λ (m : Splitting W). FinishesOutput told (Ok u) m new between after) h.now f in
    let whole : FillsOutput told w.opening w.head item s new before after = record {
      all = all_full (open_count s.output + 1) s.size (e ∙ test_is told w.opening w.head item s next before h);
      now = done.0;
      counts = record { failures = done.1.0.failures ∙ p.quiet.failures; given_up = done.1.0.given_up ∙ p.quiet.given_up };
      text = λ items v k right are.
          let all : List Item = items_with items w.opening w.head item s.output in
          let had =
          subst (λ (t : Option (List (List ℕ))). IsOutput told.contents told.writer_failures s.limits t all h.out)
          (sym p.quiet.texts)
          (h.held items k) in
          subst (λ (t : Option (List (List ℕ))). AddsText t (told.texts after) (canonical_text v)) p.quiet.texts
          (done.1.1 all v had right (are ∙ ap (λ (l : List Item). all ++ l ++ Ended ∷ []) (sym (closed_end h.out h.group))));
    } in
    (w.opening, w.head, h.opening_is, h.head_is, inr whole)
