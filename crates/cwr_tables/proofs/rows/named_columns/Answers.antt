use Rattle.std.proofs.Common.{◌<◌, ◌≤◌, length, sym, arith}
use Rattle.cwr_fields.specs.Format.Layouts.{layout}
use Rattle.cwr_devices.proofs.lemmas.Adding.{adds_as, adds_both, adds_nothing}
use Rattle.cwr_tables.proofs.lemmas.CellsOfRows.{columns_more, columns_whole}
use Rattle.cwr_tables.proofs.rows.named_columns.Goals as goal

pub loop-before-init : goal.loop-before-init
loop-before-init g c = adds_nothing

pub loop-before-preserved : goal.loop-before-preserved
loop-before-preserved g c =
    let within : c.loop-before.before < length (layout c.args.kind) =
    omega (arith, c.loop-before-test.true, c.fields-before-end.ensures) in
    adds_as (sym (columns_more c.args.kind c.loop-before.before within)) (adds_both c.loop-before.invariant c.column_of.ensures)

pub returns : goal.returns
returns g c =
    let all : length (layout c.args.kind) ≤ c.loop-before.before =
    omega (arith, c.loop-before-test.false, c.fields-before-end.ensures) in
    adds_as (columns_whole c.args.kind c.loop-before.before all) c.loop-before.invariant
