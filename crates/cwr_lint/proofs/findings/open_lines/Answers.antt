use Rattle.std.proofs.Common.{Option, true, subst, sym}
use Rattle.cwr_tools.specs.Steps.Reports.{AddsLines}
use Rattle.cwr_lint.specs.Format.FaultsOfLines.{EndedTransaction, ended_lines}
use Rattle.cwr_lint.specs.Steps.Runs.{asking_of}
use Rattle.cwr_lint.specs.Steps.Walks.{ended_in, told_ended}
use Rattle.cwr_lint.proofs.findings.open_lines.Goals as goal

pub returns-in-Some-Some-clause-adds : goal.returns-in-Some-Some-clause-adds
returns-in-Some-Some-clause-adds g c =
    let asked = asking_of c.args.asked.now in
    subst (λ (ended : Option EndedTransaction). AddsLines g.W.Target.contents g.W.Target.failures true
    (ended_lines asked (told_ended asked c.args.advice.now ended) ended) c.finding_lines.result c.args.pen.now c.finding_lines.new.pen)
    (λ i. ended_in c.args.state.now (sym c.in-Some-Some.is-0 i) (sym c.in-Some-Some.is-1 i)) c.finding_lines.ensures.adds
