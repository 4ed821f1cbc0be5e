use Rattle.std.proofs.Common.{sym}
use Rattle.cwr_devices.proofs.lemmas.Adding.{adds_as, adds_both}
use Rattle.cwr_tables.specs.Format.WorkTables.{names}
use Rattle.cwr_tables.proofs.lemmas.CellTexts.{next_by}
use Rattle.cwr_tables.proofs.work_texts.next_names.Goals as goal

pub returns : goal.returns
returns g c =
    adds_as (next_by (names c.args.encoding c.args.side c.args.transaction.now) c.need_quotes-quoted.result
    (sym (c.need_quotes-quoted.ensures c.args.encoding)))
    (adds_both (adds_both (adds_both c.text.ensures c.edge.ensures) c.names.ensures) c.edge-2.ensures)
