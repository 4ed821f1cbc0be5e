use Rattle.cwr_tools.specs.Format.Reports.{lines_of_records}
use Rattle.cwr_tools.proofs.lemmas.ReportSteps.{last_lines}
use Rattle.cwr_tools.proofs.shown_records.ShownRecordsReport.last_lines.Goals as goal

pub returns : goal.returns
returns g c = λ of given e. last_lines of lines_of_records given c.args.verdict.now e c.verdict_line.ensures
