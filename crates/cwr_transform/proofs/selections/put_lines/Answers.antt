use Rattle.cwr_transform.proofs.lemmas.SelectionsTold.{fault_so, report_so}
use Rattle.cwr_transform.proofs.selections.put_lines.Goals as goal

pub returns-in-Ok-clause-told : goal.returns-in-Ok-clause-told
returns-in-Ok-clause-told g c = λ numbers places ps say knows.
    report_so _ c.args.selected.now.outcome c.in-Ok.report c.in-Ok.is (c.put_report.ensures numbers places ps say knows)

pub returns-in-Err-clause-fault : goal.returns-in-Err-clause-fault
returns-in-Err-clause-fault g c = fault_so _ c.args.selected.now.outcome c.in-Err.fault c.in-Err.is c.put_fault.ensures
