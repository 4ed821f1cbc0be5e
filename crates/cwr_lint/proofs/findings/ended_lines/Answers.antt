use Rattle.std.proofs.Common.{Bool, Option, None, cond, true, subst, sym, ap, ◌∙◌}
use Rattle.cwr_tools.specs.Steps.Reports.{AddsLines}
use Rattle.cwr_lint.specs.Format.FaultsOfLines.{EndedTransaction, ended_lines}
use Rattle.cwr_lint.specs.Steps.Runs.{asking_of}
use Rattle.cwr_lint.specs.Steps.Walks.{ended_in, told_ended}
use Rattle.cwr_lint.proofs.findings.ended_lines.Goals as goal

pub returns-then-ends_whole-clause-adds : goal.returns-then-ends_whole-clause-adds
returns-then-ends_whole-clause-adds g c =
    let asked = asking_of c.args.asked.now in
    let it = ended_in c.args.state.now c.args.state.now.group c.args.begun.now in
    subst (λ (ended : Option EndedTransaction). AddsLines g.W.Target.contents g.W.Target.failures true
    (ended_lines asked (told_ended asked c.args.advice.now ended) ended) c.open_lines.result c.args.pen.now c.open_lines.new.pen)
    (ap (λ (b : Bool). cond b it None) (sym c.if-ends_whole.true ∙ c.ends_whole.ensures)) c.open_lines.ensures.adds
