use Rattle.std.proofs.Common.{sym}
use Rattle.cwr_devices.proofs.lemmas.Adding.{adds_as, adds_nothing}
use Rattle.cwr_tables.proofs.lemmas.RowsUnder.{no_rows, rows_by}
use Rattle.cwr_tables.proofs.record_tables.transaction_rows.Goals as goal

pub returns-in_default : goal.returns-in_default
returns-in_default g c =
    adds_as (sym (no_rows c.args.encoding c.args.kind c.args.place c.args.transaction.now c.in_default.ensures.value)) adds_nothing

pub returns : goal.returns
returns g c =
    adds_as (rows_by c.args.encoding c.args.kind c.args.place c.in-Some.head c.args.transaction.now c.in-Some.ensures.value)
    c.rows_under.ensures
