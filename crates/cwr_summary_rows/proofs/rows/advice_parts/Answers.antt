use Rattle.std.proofs.Common.{ap, sym}
use Rattle.cwr_devices.proofs.lemmas.Adding.{adds_as, adds_both}
use Rattle.cwr_summary_rows.specs.Format.Rows.{advice_parts}
use Rattle.cwr_summary_rows.proofs.rows.advice_parts.Goals as goal

pub returns-in-Some : goal.returns-in-Some
returns-in-Some g c =
    adds_as (ap (advice_parts c.args.form) (sym c.in-Some.is))
    (adds_both (adds_both c.number_cell.ensures c.number_cell-in-Some.ensures) c.number_cell-in-Some-2.ensures)

pub returns-in-None : goal.returns-in-None
returns-in-None g c =
    adds_as (ap (advice_parts c.args.form) (sym c.in-None.is))
    (adds_both (adds_both c.number_cell-in-None.ensures c.number_cell-in-None-2.ensures) c.number_cell-in-None-3.ensures)
