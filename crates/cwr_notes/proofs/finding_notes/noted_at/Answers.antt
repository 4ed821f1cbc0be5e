use Rattle.std.proofs.Common.{sym}
use Rattle.cwr_devices.proofs.lemmas.Adding.{adds_as, adds_nothing}
use Rattle.cwr_notes.proofs.lemmas.RecordsThere.{noted_none, noted_some}
use Rattle.cwr_notes.proofs.finding_notes.noted_at.Goals as goal

pub returns-in_default : goal.returns-in_default
returns-in_default g c =
    adds_as (sym (noted_none c.args.first c.args.transaction.now c.args.rule c.args.position c.in_default.ensures.value)) adds_nothing

pub returns : goal.returns
returns g c =
    adds_as (noted_some c.args.first c.args.transaction.now c.args.rule c.args.position c.in-Some.shown c.in-Some.ensures.value)
    c.noted_cells.ensures
