use Rattle.cwr_devices.proofs.lemmas.Adding.{adds_nothing}
use Rattle.cwr_tools.proofs.lemmas.ReportSteps.{last_lines}
use Rattle.cwr_summary.specs.Format.Summaries.{lines_of_nothing}
use Rattle.cwr_summary.proofs.summing.SummedItemsReport.last_lines.Goals as goal

pub returns : goal.returns
returns g c = λ of given e. last_lines of lines_of_nothing given c.args.arg2.now e.0 adds_nothing
