use Rattle.std.proofs.Common.{◌≡◌, ◌+◌, ℕ, List, length, refl, sym, ap, ◌∙◌, arith}
use Rattle.std.specs.Prelude.{Some, option_map, slice_get}
use Rattle.std.proofs.lemmas.Option.{slice_get_read}
use Rattle.cwr_devices.proofs.lemmas.Adding.{adds_nothing}
use Rattle.cwr_sent.specs.Format.GroupRows.{GroupRows}
use Rattle.cwr_sent.specs.Format.SentRows.{shown_in}
use Rattle.cwr_state_rows.specs.Steps.HeldRows.{group_text}
use Rattle.cwr_state_rows.proofs.lemmas.PutInTurn.{rows_more, rows_refused, rows_stopped, rows_whole}
use Rattle.cwr_state_rows.proofs.putting.sent_rows.Goals as goal

pub loop-g-init : goal.loop-g-init
loop-g-init g c = adds_nothing

pub returns-in_err-group_rows : goal.returns-in_err-group_rows
returns-in_err-group_rows g c =
    let gs : List GroupRows = (shown_in c.args.sent.now).groups in
    let there : Some c.index-groups-g.result ≡ slice_get gs c.loop-g.g =
    sym (slice_get_read c.groups-groups.result.now (length c.groups-groups.result.now) c.loop-g.g c.index-groups-g.result refl
    c.loop-g-test.true c.index-groups-g.is)
    ∙ ap (λ (l : List GroupRows). slice_get l c.loop-g.g) c.groups-groups.ensures in
    let text : ℕ → GroupRows → List ℕ = group_text c.args.form (option_map (λ n. n.now) c.args.name) c.args.files.now in
    rows_refused g.W.Target.contents g.W.Target.failures _ c.from_residual.result _ c.args.pen.now c.group_rows.new.pen
    c.from_residual.ensures.1
    (rows_stopped g.W.Target.contents g.W.Target.failures text 1 c.loop-g.g (c.loop-g.g + 1) gs c.index-groups-g.result c.args.pen.now
    c.loop-g.pen c.group_rows.new.pen there (omega arith) c.loop-g.invariant c.in_err-group_rows.ensures)

pub loop-g-preserved : goal.loop-g-preserved
loop-g-preserved g c =
    let gs : List GroupRows = (shown_in c.args.sent.now).groups in
    let there : Some c.index-groups-g.result ≡ slice_get gs c.loop-g.g =
    sym (slice_get_read c.groups-groups.result.now (length c.groups-groups.result.now) c.loop-g.g c.index-groups-g.result refl
    c.loop-g-test.true c.index-groups-g.is)
    ∙ ap (λ (l : List GroupRows). slice_get l c.loop-g.g) c.groups-groups.ensures in
    let text : ℕ → GroupRows → List ℕ = group_text c.args.form (option_map (λ n. n.now) c.args.name) c.args.files.now in
    rows_more text 1 c.loop-g.g (c.loop-g.g + 1) gs c.index-groups-g.result there (omega arith) c.loop-g.invariant
    c.in_ok-group_rows.ensures

pub returns : goal.returns
returns g c =
    let gs : List GroupRows = (shown_in c.args.sent.now).groups in
    let text : ℕ → GroupRows → List ℕ = group_text c.args.form (option_map (λ n. n.now) c.args.name) c.args.files.now in
    rows_whole text 1 c.loop-g.g gs (omega (arith, ap length c.groups-groups.ensures)) c.loop-g.invariant
