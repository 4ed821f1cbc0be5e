use Rattle.cwr_devices.proofs.lemmas.Adding.{adds_both}
use Rattle.cwr_summary_rows.proofs.rows.work_parts.Goals as goal

pub returns : goal.returns
returns g c =
    adds_both (adds_both (adds_both (adds_both c.sum_cell.ensures c.code_cells.ensures) c.sum_cell-2.ensures) c.sum_cell-3.ensures)
    c.code_cells-2.ensures
