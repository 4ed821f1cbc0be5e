use Rattle.cwr_devices.proofs.lemmas.Adding.{adds_both}
use Rattle.cwr_summary_rows.proofs.rows.front_parts.Goals as goal

pub returns : goal.returns
returns g c =
    adds_both (adds_both (adds_both (adds_both (adds_both c.file_part.ensures c.number_cell.ensures) c.number_cell-2.ensures)
    c.digest_cell.ensures) c.digest_cell-2.ensures) c.bytes_cell.ensures
