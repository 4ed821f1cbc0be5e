use Rattle.std.proofs.Common.{sym}
use Rattle.cwr_devices.proofs.lemmas.Adding.{adds_nothing}
use Rattle.cwr_advise.specs.Format.AdviceLines.{lines_advised}
use Rattle.cwr_advise.proofs.lemmas.LinesOfAdvice.{advised_none}
use Rattle.cwr_tools.proofs.lemmas.ReportSteps.{first_lines}
use Rattle.cwr_advise.proofs.advice_lines.AdviceLinesReport.first_lines.Goals as goal

pub returns : goal.returns
returns g c = λ of here.
    let self = c.args.self.now in
    first_lines of (lines_advised self.manner self.up_to_fault self.repeats.limit) here.0
    (sym (advised_none self.manner self.repeats.limit)) adds_nothing
