use Rattle.cwr_devices.proofs.lemmas.Adding.{adds_as, adds_both}
use Rattle.cwr_summary_rows.proofs.lemmas.Parts.{json_bytes}
use Rattle.cwr_summary_rows.proofs.cells.bytes_cell.Goals as goal

pub returns-in-Json : goal.returns-in-Json
returns-in-Json g c =
    adds_as (json_bytes c.args.form c.in-Json.is c.args.name.now c.args.text.now c.is_empty.result c.is_empty.ensures c.if-is_empty.false)
    (adds_both (adds_both (adds_both c.start-in-Json.ensures c.text-in-Json.ensures) c.escaped_characters.ensures)
    c.text-in-Json-2.ensures)
