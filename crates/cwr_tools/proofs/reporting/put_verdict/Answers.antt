use Rattle.std.proofs.Common.{false, rules}
use Rattle.cwr_devices.proofs.lemmas.Adding.{puts_added}
use Rattle.cwr_tools.proofs.lemmas.ReportSteps.{told_put}
use Rattle.cwr_tools.proofs.reporting.put_verdict.Goals as goal

pub returns : goal.returns
returns g c = λ of given s.
    told_put g.W.Target.contents g.W.Target.failures false (of.last given c.args.verdict.now) c.end.result c.as_told.result _ _
    c.as_told.ensures (puts_added (search rules) (search rules) (c.last_lines.ensures of given s) (search rules))
