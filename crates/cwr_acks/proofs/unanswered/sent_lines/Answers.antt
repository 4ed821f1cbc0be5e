use Rattle.std.proofs.Common.{◌≡◌, ℕ, ◌+◌, ◌≤◌, Some, Option, List, length, refl, sym, ap, ◌∙◌, arith}
use Rattle.std.specs.Prelude.{slice_get}
use Rattle.std.specs.List.{enumerate_from}
use Rattle.std.proofs.lemmas.Option.{slice_get_past, slice_get_read}
use Rattle.cwr_sent.specs.Format.GroupRows.{GroupRows}
use Rattle.cwr_sent.specs.Format.SentRows.{shown_in}
use Rattle.cwr_devices.proofs.lemmas.Adding.{adds_all, adds_as, adds_next, adds_nothing, numbered_none, numbered_there}
use Rattle.cwr_acks.specs.Format.AckLines.{telling_of}
use Rattle.cwr_acks.specs.Steps.AckSteps.{group_lines}
use Rattle.cwr_acks.proofs.unanswered.sent_lines.Goals as goal

pub loop-g-init : goal.loop-g-init
loop-g-init g c = adds_nothing

pub loop-g-preserved : goal.loop-g-preserved
loop-g-preserved g c =
    let gs : List GroupRows = (shown_in c.args.sent.now).groups in
    let there : Some c.index-groups-g.result ≡ slice_get gs c.loop-g.g =
    sym (slice_get_read c.groups-groups.result.now (length c.groups-groups.result.now) c.loop-g.g c.index-groups-g.result refl
    c.loop-g-test.true c.index-groups-g.is)
    ∙ ap (λ (l : List GroupRows). slice_get l c.loop-g.g) c.groups-groups.ensures in
    let lines : Option (List ℕ) → ℕ → GroupRows → List ℕ = group_lines (telling_of c.args.manner.now) in
    let number : c.loop-g.g + 1 ≡ 1 + c.loop-g.g = omega arith in
    adds_next (λ (p : ℕ × GroupRows). lines (slice_get (telling_of c.args.manner.now).names c.args.i) p.0 p.1)
    (enumerate_from 1 gs) c.loop-g.g (1 + c.loop-g.g, c.index-groups-g.result)
    (numbered_there 1 c.loop-g.g gs c.index-groups-g.result there) c.loop-g.invariant
    (adds_as (ap (λ (o : Option (List ℕ)). lines o (c.loop-g.g + 1) c.index-groups-g.result) c.name-name.ensures
    ∙ ap (λ (n : ℕ). lines (slice_get (telling_of c.args.manner.now).names c.args.i) n c.index-groups-g.result) number)
    c.group_lines.ensures)

pub returns : goal.returns
returns g c =
    let gs : List GroupRows = (shown_in c.args.sent.now).groups in
    let past : length gs ≤ c.loop-g.g = omega (arith, c.loop-g-test.false, ap length c.groups-groups.ensures) in
    adds_all (λ (p : ℕ × GroupRows). group_lines (telling_of c.args.manner.now) (slice_get (telling_of c.args.manner.now).names c.args.i)
    p.0 p.1) (enumerate_from 1 gs) c.loop-g.g (numbered_none 1 c.loop-g.g gs (sym (slice_get_past gs c.loop-g.g past)))
    c.loop-g.invariant
