use Rattle.std.proofs.Common.{◌≡◌, ℕ, ◌+◌, ◌≤◌, List, length, sym, ◌∙◌, arith, ap}
use lib.ListN.{length-map}
use Rattle.std.specs.Prelude.{Some, slice_get}
use Rattle.std.specs.List.{enumerate_from}
use Rattle.std.proofs.lemmas.Option.{slice_get_past}
use Rattle.cwr_sent.specs.Format.SentRows.{SentShown, shown_in}
use Rattle.cwr_delivery.specs.Steps.Deliveries.{held_in}
use Rattle.cwr_delivery.proofs.lemmas.Ends.{shown_at}
use Rattle.cwr_devices.proofs.lemmas.Adding.{adds_all, adds_as, adds_next, adds_nothing, numbered_none, numbered_there}
use Rattle.cwr_acks.specs.Format.AckLines.{telling_of}
use Rattle.cwr_acks.specs.Steps.AckSteps.{sent_lines}
use Rattle.cwr_acks.proofs.unanswered.held_lines.Goals as goal

pub loop-i-init : goal.loop-i-init
loop-i-init g c = adds_nothing

pub loop-i-preserved : goal.loop-i-preserved
loop-i-preserved g c =
    let there : Some (shown_in c.index-sent-i.result) ≡ slice_get (held_in c.args.delivery.now).sent c.loop-i.i =
    sym (shown_at shown_in c.sent-sent.result.now c.loop-i.i c.index-sent-i.result c.loop-i-test.true c.index-sent-i.is)
    ∙ ap (λ (l : List SentShown). slice_get l c.loop-i.i) c.sent-sent.ensures in
    let number : c.loop-i.i ≡ 0 + c.loop-i.i = omega arith in
    adds_next (λ (p : ℕ × SentShown). sent_lines (telling_of c.args.manner.now) p.0 p.1)
    (enumerate_from 0 (held_in c.args.delivery.now).sent) c.loop-i.i (0 + c.loop-i.i, shown_in c.index-sent-i.result)
    (numbered_there 0 c.loop-i.i (held_in c.args.delivery.now).sent (shown_in c.index-sent-i.result) there) c.loop-i.invariant
    (adds_as (ap (λ (n : ℕ). sent_lines (telling_of c.args.manner.now) n (shown_in c.index-sent-i.result)) number) c.sent_lines.ensures)

pub returns : goal.returns
returns g c =
    let rows : List SentShown = (held_in c.args.delivery.now).sent in
    let past : length rows ≤ c.loop-i.i =
    omega (arith, c.loop-i-test.false, ap length c.sent-sent.ensures, length-map c.sent-sent.result.now shown_in) in
    adds_all (λ (p : ℕ × SentShown). sent_lines (telling_of c.args.manner.now) p.0 p.1) (enumerate_from 0 rows) c.loop-i.i
    (numbered_none 0 c.loop-i.i rows (sym (slice_get_past rows c.loop-i.i past))) c.loop-i.invariant
