use Rattle.std.proofs.Common.{◌≡◌, ◌<◌, ◌≤◌, length, sym, ap, ◌∙◌, arith}
use Rattle.cwr_fields.specs.declared.kinds.Kind.{Kind}
use Rattle.cwr_fields.specs.Format.Layouts.{layout}
use Rattle.cwr_devices.proofs.lemmas.Adding.{adds_as, adds_both, adds_nothing}
use Rattle.cwr_tables.proofs.lemmas.CellsOfRows.{cells_more, cells_whole}
use Rattle.cwr_tables.proofs.rows.shown_cells.Goals as goal

pub loop-before-init : goal.loop-before-init
loop-before-init g c = adds_nothing

pub loop-before-preserved : goal.loop-before-preserved
loop-before-preserved g c =
    let fields : c.fields-before-end.result ≡ length (layout c.args.shown.now.kind) =
    c.fields-before-end.ensures ∙ ap (λ (kind : Kind). length (layout kind)) c.kind.ensures.value in
    let within : c.loop-before.before < length (layout c.args.shown.now.kind) = omega (arith, c.loop-before-test.true, fields) in
    adds_as (sym (cells_more c.args.encoding c.args.shown.now c.loop-before.before within))
    (adds_both c.loop-before.invariant c.field_cell.ensures)

pub returns : goal.returns
returns g c =
    let fields : c.fields-before-end.result ≡ length (layout c.args.shown.now.kind) =
    c.fields-before-end.ensures ∙ ap (λ (kind : Kind). length (layout kind)) c.kind.ensures.value in
    let all : length (layout c.args.shown.now.kind) ≤ c.loop-before.before = omega (arith, c.loop-before-test.false, fields) in
    adds_as (cells_whole c.args.encoding c.args.shown.now c.loop-before.before c.kind.ensures.fits all) c.loop-before.invariant
