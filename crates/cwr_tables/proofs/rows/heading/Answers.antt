use Rattle.cwr_devices.proofs.lemmas.Adding.{adds_as, adds_both}
use Rattle.cwr_tables.proofs.lemmas.TextsOfRows.{heading_is}
use Rattle.cwr_tables.proofs.rows.heading.Goals as goal

pub returns : goal.returns
returns g c =
    adds_as (heading_is c.args.kind)
    (adds_both (adds_both (adds_both c.text.ensures c.named_columns.ensures) c.header_heading.ensures) c.text-2.ensures)
