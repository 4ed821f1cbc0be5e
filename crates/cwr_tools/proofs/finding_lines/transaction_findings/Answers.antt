use Rattle.cwr_values.specs.declared.items.Item.TheVariants.{Transaction}
use Rattle.cwr_tools.specs.Format.Reports.{has_findings, transaction_lines}
use Rattle.cwr_tools.proofs.lemmas.ReportSteps.{memory_refused}
use Rattle.cwr_tools.proofs.finding_lines.transaction_findings.Goals as goal

pub returns-in_err-findings_in-clause-adds : goal.returns-in_err-findings_in-clause-adds
returns-in_err-findings_in-clause-adds g c =
    memory_refused g.W.Target.contents g.W.Target.failures (has_findings (Transaction c.args.transaction.now))
    (transaction_lines c.args.explained c.args.apart c.args.group c.args.sequence c.args.first c.args.transaction.now)
    c.from_residual.result _ c.args.pen.now c.findings_in.new.pen c.from_residual.ensures.1 c.in_err-findings_in.ensures.adds
