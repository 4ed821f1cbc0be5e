use Rattle.std.proofs.Common.{◌≡◌, Bool, List, ap, sym, ◌+◌, ◌∙◌, arith, ℕ, take, refl}
use Rattle.std.specs.Prelude.{◌||◌}
use Rattle.std.specs.List.{enumerate_from, list_any}
use Rattle.cwr_lines.specs.Format.Records.{RecordValue}
use Rattle.cwr_encode.proofs.lemmas.PutRows.{found_within}
use Rattle.cwr_devices.proofs.lemmas.Adding.{adds_all, adds_as, adds_next, adds_nothing, numbered_none, numbered_there}
use Rattle.cwr_delivery.specs.Format.Acknowledgements.{is_message}
use Rattle.cwr_acks.specs.Steps.AckSteps.{message_in}
use Rattle.cwr_delivery.proofs.lemmas.NamedCells.{any_more}
use Rattle.cwr_acks.proofs.item_lines.messages_in.Goals as goal

pub loop-shown-init : goal.loop-shown-init
loop-shown-init g c = record { within = omega arith; later = refl; adds = adds_nothing }

pub loop-shown-smaller : goal.loop-shown-smaller
loop-shown-smaller g c =
    let h = found_within c.args.transaction.now c.loop-shown.i c.in-Some.shown c.in-Some.ensures.value in omega (arith, h)

pub loop-shown-preserved : goal.loop-shown-preserved
loop-shown-preserved g c =
    let t : List RecordValue = c.args.transaction.now in
    let number : 0 + c.loop-shown.i ≡ c.loop-shown.i = omega arith in
    let now : c.loop-shown.later ≡ list_any is_message (take (0 + c.loop-shown.i) t) =
    c.loop-shown.invariant.later ∙ ap (λ (n : ℕ). list_any is_message (take n t)) (sym number) in
    record {
      within = let h = found_within t c.loop-shown.i c.in-Some.shown c.in-Some.ensures.value in omega (arith, h);
      later =
          ap (λ (b : Bool). c.loop-shown.later || b) c.is_message-later.ensures
          ∙ ap (λ (b : Bool). b || is_message c.in-Some.shown) c.loop-shown.invariant.later
          ∙ sym (any_more is_message t c.loop-shown.i c.in-Some.shown c.in-Some.ensures.value);
      adds =
          adds_next (λ (p : ℕ × RecordValue). message_in c.args.form (list_any is_message (take p.0 t)) p.1) (enumerate_from 0 t)
          c.loop-shown.i (0 + c.loop-shown.i, c.in-Some.shown)
          (numbered_there 0 c.loop-shown.i t c.in-Some.shown c.in-Some.ensures.value) c.loop-shown.invariant.adds
          (adds_as (ap (λ (b : Bool). message_in c.args.form b c.in-Some.shown) now) c.message_in.ensures);
    }

pub returns : goal.returns
returns g c =
    let t : List RecordValue = c.args.transaction.now in
    adds_all (λ (p : ℕ × RecordValue). message_in c.args.form (list_any is_message (take p.0 t)) p.1) (enumerate_from 0 t)
    c.loop-shown.i (numbered_none 0 c.loop-shown.i t c.in_default.ensures.value) c.loop-shown.invariant.adds
