use Rattle.cwr_devices.proofs.lemmas.Adding.{adds_nothing}
use Rattle.cwr_tools.specs.Format.Reports.{lines_of_data}
use Rattle.cwr_tools.proofs.lemmas.ReportSteps.{last_lines}
use Rattle.cwr_tools.proofs.json_lines.DataLinesReport.last_lines.Goals as goal

pub returns : goal.returns
returns g c =
    λ of given e. last_lines of (lines_of_data c.args.self.now.encoding c.args.self.now.noted) given _ e adds_nothing
