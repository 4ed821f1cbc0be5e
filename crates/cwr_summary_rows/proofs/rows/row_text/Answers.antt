use Rattle.cwr_devices.proofs.lemmas.Adding.{adds_both}
use Rattle.cwr_summary_rows.proofs.rows.row_text.Goals as goal

pub returns : goal.returns
returns g c =
    adds_both (adds_both (adds_both (adds_both (adds_both (adds_both (adds_both (adds_both c.front_parts.ensures c.header_parts.ensures)
    c.count_parts.ensures) c.work_parts.ensures) c.finding_parts.ensures) c.advice_parts.ensures) c.right_parts.ensures)
    c.number_cell.ensures) c.last_part.ensures
