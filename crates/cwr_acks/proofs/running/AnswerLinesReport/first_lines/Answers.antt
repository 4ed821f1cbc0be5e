use Rattle.std.proofs.Common.{sym}
use Rattle.cwr_devices.proofs.lemmas.Adding.{adds_nothing}
use Rattle.cwr_acks.specs.Format.AckLines.{telling_of}
use Rattle.cwr_acks.specs.Steps.AckSteps.{lines_of_held}
use Rattle.cwr_acks.proofs.lemmas.LinesOfItems.{lines_none}
use Rattle.cwr_tools.proofs.lemmas.ReportSteps.{first_lines}
use Rattle.cwr_acks.proofs.running.AnswerLinesReport.first_lines.Goals as goal

pub returns : goal.returns
returns g c = λ of here.
    let telling = telling_of c.args.self.now.manner in
    first_lines of (lines_of_held telling g.B.Before.held) here.0 (sym (lines_none telling g.B.Before.held)) adds_nothing
