use Rattle.cwr_devices.proofs.lemmas.Adding.{adds_nothing}
use Rattle.cwr_acks.specs.Format.AckLines.{telling_of}
use Rattle.cwr_acks.specs.Steps.AckSteps.{lines_of_held}
use Rattle.cwr_tools.proofs.lemmas.ReportSteps.{last_lines}
use Rattle.cwr_acks.proofs.running.AnswerLinesReport.last_lines.Goals as goal

pub returns : goal.returns
returns g c =
    λ of given here. last_lines of (lines_of_held (telling_of c.args.self.now.manner) g.B.Before.held) given _ here.0 adds_nothing
