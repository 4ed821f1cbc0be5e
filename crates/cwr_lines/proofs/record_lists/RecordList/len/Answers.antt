use Rattle.cwr_lines.proofs.lemmas.KeptRecords.{in_order}
use Rattle.cwr_lines.proofs.record_lists.RecordList.len.Goals as goal

pub returns-clause-fits : goal.returns-clause-fits
returns-clause-fits c =
    in_order c.self.inside.text.items c.self.inside.starts.items c.args.self.now c.self.invariant.0 c.self.view_is
