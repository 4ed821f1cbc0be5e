use Rattle.std.proofs.Common.{sym, ◌∙◌, append-nil}
use Rattle.cwr_values.specs.Format.Rows.{trailer}
use Rattle.cwr_devices.proofs.lemmas.Adding.{adds_as}
use Rattle.cwr_notes.specs.Format.RecordTexts.{record_lines}
use Rattle.cwr_notes.proofs.lemmas.CellsOfFields.{trailer_lines}
use Rattle.cwr_tools.proofs.shown_records.item_lines.Goals as goal

pub returns-in-Ended : goal.returns-in-Ended
returns-in-Ended g c =
    rw c.in-Ended.is (adds_as (trailer_lines c.args.first ∙ sym (append-nil (record_lines c.args.first trailer))) c.head_line.ensures)
