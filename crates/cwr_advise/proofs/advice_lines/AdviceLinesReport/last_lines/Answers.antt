use Rattle.cwr_devices.proofs.lemmas.Adding.{adds_as}
use Rattle.cwr_advise.specs.Format.AdviceLines.{lines_advised}
use Rattle.cwr_advise.proofs.lemmas.Begun.{last_same}
use Rattle.cwr_tools.proofs.lemmas.ReportSteps.{last_lines}
use Rattle.cwr_advise.proofs.advice_lines.AdviceLinesReport.last_lines.Goals as goal

pub returns : goal.returns
returns g c = λ of given here.
    let self = c.args.self.now in
    last_lines of (lines_advised self.manner self.up_to_fault self.repeats.limit) given c.args.verdict.now here.0
    (adds_as (last_same self.up_to_fault self.manner.all self.repeats.limit given self.told c.args.verdict.now here.4)
    c.last_lines.ensures)
