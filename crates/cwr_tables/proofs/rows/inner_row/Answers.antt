use Rattle.cwr_devices.proofs.lemmas.Adding.{adds_as, adds_both}
use Rattle.cwr_tables.proofs.lemmas.TextsOfRows.{inner_row_is}
use Rattle.cwr_tables.proofs.rows.inner_row.Goals as goal

pub returns : goal.returns
returns g c =
    adds_as (inner_row_is c.args.encoding c.args.head.now c.args.numbers c.args.shown.now)
    (adds_both (adds_both (adds_both c.numbers_text.ensures c.shown_cells.ensures) c.header_text.ensures) c.text.ensures)
