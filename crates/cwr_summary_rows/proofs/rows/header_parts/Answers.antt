use Rattle.cwr_devices.proofs.lemmas.Adding.{adds_both}
use Rattle.cwr_summary_rows.proofs.rows.header_parts.Goals as goal

pub returns : goal.returns
returns g c =
    adds_both (adds_both (adds_both (adds_both (adds_both c.header_cell.ensures c.header_cell-2.ensures) c.header_cell-3.ensures)
    c.header_cell-4.ensures) c.header_cell-5.ensures) c.header_cell-6.ensures
