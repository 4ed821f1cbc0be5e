use Rattle.cwr_tools.specs.Format.Reports.{lines_of_findings}
use Rattle.cwr_calls.proofs.report_texts.check_report.Goals as goal

pub returns-clause-written : goal.returns-clause-written
returns-clause-written c = c.report_of.ensures.written lines_of_findings c.new-findings.ensures.stands
