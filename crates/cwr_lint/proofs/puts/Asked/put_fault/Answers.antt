use Rattle.std.proofs.Common.{rules}
use Rattle.cwr_devices.proofs.lemmas.Adding.{puts_added}
use Rattle.cwr_lint.specs.Format.FaultsOfLines.{IsFaultText}
use Rattle.cwr_lint.specs.Steps.Runs.{asking_of}
use Rattle.cwr_lint.proofs.lemmas.CutShort.{such_leaves}
use Rattle.cwr_lint.proofs.lemmas.TextsPut.{always, such_puts}
use Rattle.cwr_lint.proofs.puts.Asked.put_fault.Goals as goal

pub returns-clause-puts : goal.returns-clause-puts
returns-clause-puts g c =
    let lines = c.fault_lines-told.ensures in
    such_puts (IsFaultText (asking_of c.args.self.now) c.args.fault.now) g.W.Target.contents g.W.Target.failures lines.0 c.end.result
    c.fault_lines-told.result c.told_so.result _ _ c.told_so.ensures (always c.fault_lines-told.result _ lines.2)
    (puts_added (search rules) (search rules) lines.1 (search rules))

pub returns-clause-leaves : goal.returns-clause-leaves
returns-clause-leaves g c =
    let lines = c.fault_lines-told.ensures in
    such_leaves (IsFaultText (asking_of c.args.self.now) c.args.fault.now) g.W.Target.contents g.W.Target.failures lines.0 c.end.result
    c.fault_lines-told.result c.told_so.result _ _ c.told_so.ensures lines.2
    (puts_added (search rules) (search rules) lines.1 (search rules))
