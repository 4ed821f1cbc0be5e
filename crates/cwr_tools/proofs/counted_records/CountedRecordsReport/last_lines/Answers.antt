use Rattle.cwr_tools.specs.Format.Reports.{lines_of_counted}
use Rattle.cwr_tools.proofs.lemmas.ReportSteps.{last_lines}
use Rattle.cwr_tools.proofs.counted_records.CountedRecordsReport.last_lines.Goals as goal

pub returns : goal.returns
returns g c = λ of given e. last_lines of lines_of_counted given c.args.verdict.now e.0 c.verdict_line.ensures
