use Rattle.std.proofs.Common.{refl}
use Rattle.cwr_devices.proofs.lemmas.Adding.{adds_nothing}
use Rattle.cwr_tools.proofs.lemmas.ReportSteps.{first_lines}
use Rattle.cwr_summary.specs.Format.Summaries.{lines_of_nothing}
use Rattle.cwr_summary.proofs.summing.SummedItemsReport.first_lines.Goals as goal

pub returns : goal.returns
returns g c = λ of e. first_lines of lines_of_nothing e.0 refl adds_nothing
