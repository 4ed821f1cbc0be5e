use Rattle.cwr_lines.proofs.lemmas.KeptRecords.{in_order, none_there}
use Rattle.cwr_lines.proofs.record_lists.RecordList.record.Goals as goal

pub returns-in-Some-clause-fits : goal.returns-in-Some-clause-fits
returns-in-Some-clause-fits c =
    in_order c.self.inside.text.items c.self.inside.starts.items c.args.self.now c.self.invariant.0 c.self.view_is

pub returns-in-None-clause-value : goal.returns-in-None-clause-value
returns-in-None-clause-value c =
    none_there c.self.inside.text.items c.self.inside.starts.items c.deref.result.now c.args.self.now c.args.i
    c.in-None.ensures.lookup.0 c.deref.ensures.value c.self.view_is

pub returns-in-None-clause-fits : goal.returns-in-None-clause-fits
returns-in-None-clause-fits c =
    in_order c.self.inside.text.items c.self.inside.starts.items c.args.self.now c.self.invariant.0 c.self.view_is
