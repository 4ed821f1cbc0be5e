use Rattle.std.proofs.Common.{ap, arith}
use Rattle.std.specs.List.{flat_map}
use Rattle.cwr_devices.proofs.lemmas.Adding.{adds_as, adds_nothing}
use Rattle.cwr_summary_rows.specs.Format.Rows.{kind_cell}
use Rattle.cwr_summary_rows.specs.Format.Shown.{numbers_of}
use Rattle.cwr_summary_rows.proofs.lemmas.Parts.{adds_element, adds_elements}
use Rattle.cwr_summary_rows.proofs.rows.kind_cells.Goals as goal

pub loop-i-init : goal.loop-i-init
loop-i-init g c = adds_nothing

pub loop-i-preserved : goal.loop-i-preserved
loop-i-preserved g c =
    adds_element (kind_cell c.args.form (numbers_of c.args.summary.now)) c.all_kinds-kinds.result.now c.loop-i.i _ c.loop-i-test.true
    c.loop-i.invariant c.kind_cell.ensures

pub returns : goal.returns
returns g c =
    adds_as (ap (flat_map (kind_cell c.args.form (numbers_of c.args.summary.now))) c.all_kinds-kinds.ensures)
    (adds_elements (kind_cell c.args.form (numbers_of c.args.summary.now)) c.all_kinds-kinds.result.now c.loop-i.i
    (omega (arith, c.loop-i-test.false)) c.loop-i.invariant)
