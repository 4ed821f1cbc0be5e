use Rattle.std.proofs.Common.{sym}
use Rattle.cwr_encode.proofs.lemmas.PutRows.{found_within}
use Rattle.cwr_devices.proofs.lemmas.Adding.{adds_as, adds_nothing}
use Rattle.cwr_notes.proofs.lemmas.RecordsThere.{notes_none, notes_some}
use Rattle.cwr_notes.proofs.finding_notes.finding_notes.Goals as goal

pub returns-in_default-clause-adds : goal.returns-in_default-clause-adds
returns-in_default-clause-adds g c =
    adds_as (sym (notes_none c.args.apart c.args.first c.args.transaction.now c.args.finding.now c.in_default.ensures.value)) adds_nothing

pub move_to-requires-clause-within : goal.move_to-requires-clause-within
move_to-requires-clause-within g c =
    found_within c.args.transaction.now c.args.finding.now.rec c.in-Some.shown c.in-Some.ensures.value

pub notes_on-requires-clause-there : goal.notes_on-requires-clause-there
notes_on-requires-clause-there g c =
    found_within c.args.transaction.now c.args.finding.now.rec c.in-Some.shown c.in-Some.ensures.value

pub returns-clause-adds : goal.returns-clause-adds
returns-clause-adds g c =
    adds_as (notes_some c.args.apart c.args.first c.args.transaction.now c.args.finding.now c.in-Some.shown c.in-Some.ensures.value)
    c.notes_on.ensures
