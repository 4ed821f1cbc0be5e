use Rattle.std.proofs.Common.{rules}
use Rattle.cwr_devices.proofs.lemmas.Adding.{puts_added}
use Rattle.cwr_tools.proofs.lemmas.ReportSteps.{told_put}
use Rattle.cwr_tools.proofs.reporting.put_item.Goals as goal

pub returns-in-Ok-clause-puts : goal.returns-in-Ok-clause-puts
returns-in-Ok-clause-puts g c = λ of given counted s.
    let adds = c.in-Ok.ensures.adds of given counted s in (
      adds.0,
      adds.1,
      told_put g.W.Target.contents g.W.Target.failures (of.take_memory c.args.item.now) adds.0 c.end.result c.as_told.result _ _
          c.as_told.ensures (puts_added (search rules) (search rules) adds.2 (search rules)),
    )
