use Rattle.std.proofs.Common.{sym}
use Rattle.cwr_devices.proofs.lemmas.Adding.{adds_nothing}
use Rattle.cwr_tools.specs.Format.Reports.{lines_of_records}
use Rattle.cwr_tools.proofs.lemmas.LinesOfItems.{records_none}
use Rattle.cwr_tools.proofs.lemmas.ReportSteps.{first_lines}
use Rattle.cwr_tools.proofs.shown_records.ShownRecordsReport.first_lines.Goals as goal

pub returns : goal.returns
returns g c = λ of e. first_lines of lines_of_records e (sym records_none) adds_nothing
