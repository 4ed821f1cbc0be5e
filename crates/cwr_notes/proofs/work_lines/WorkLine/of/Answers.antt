use Rattle.std.proofs.Common.{sym, ◌∙◌}
use Rattle.cwr_notes.proofs.lemmas.RecordsThere.{work_none, work_some}
use Rattle.cwr_notes.proofs.work_lines.WorkLine.of.Goals as goal

pub returns-in-Some : goal.returns-in-Some
returns-in-Some c = c.by.ensures ∙ work_some c.args.transaction.now c.in-Some.head c.in-Some.ensures.value

pub returns-in-None : goal.returns-in-None
returns-in-None c = c.none.ensures ∙ sym (work_none c.args.transaction.now c.in-None.ensures.value)
