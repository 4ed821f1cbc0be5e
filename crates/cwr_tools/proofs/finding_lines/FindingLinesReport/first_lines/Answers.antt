use Rattle.std.proofs.Common.{sym}
use Rattle.cwr_devices.proofs.lemmas.Adding.{adds_nothing}
use Rattle.cwr_tools.specs.Steps.Reports.{lines_told}
use Rattle.cwr_tools.proofs.lemmas.LinesOfItems.{told_none}
use Rattle.cwr_tools.proofs.lemmas.ReportSteps.{first_lines}
use Rattle.cwr_tools.proofs.finding_lines.FindingLinesReport.first_lines.Goals as goal

pub returns : goal.returns
returns g c = λ of here.
    let self = c.args.self.now in
    first_lines of (lines_told self.explained self.up_to_fault) here.0 (sym (told_none self.explained self.up_to_fault)) adds_nothing
