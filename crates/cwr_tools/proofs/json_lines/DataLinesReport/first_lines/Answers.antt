use Rattle.std.proofs.Common.{sym}
use Rattle.cwr_devices.proofs.lemmas.Adding.{adds_nothing}
use Rattle.cwr_tools.specs.Format.Reports.{lines_of_data}
use Rattle.cwr_tools.proofs.lemmas.LinesOfItems.{data_none}
use Rattle.cwr_tools.proofs.lemmas.ReportSteps.{first_lines}
use Rattle.cwr_tools.proofs.json_lines.DataLinesReport.first_lines.Goals as goal

pub returns : goal.returns
returns g c = λ of e.
    let self = c.args.self.now in
    first_lines of (lines_of_data self.encoding self.noted) e (sym (data_none self.encoding self.noted)) adds_nothing
