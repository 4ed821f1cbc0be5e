use Rattle.std.proofs.Common.{sym, subst}
use Rattle.std.specs.Prelude.{Result}
use Rattle.cwr_tools.specs.declared.verdicts.ToolFault.{ToolFault}
use Rattle.cwr_tools.specs.declared.verdicts.Verdict.{Verdict}
use Rattle.cwr_tools.specs.Steps.Reports.{PutsReport}
use Rattle.cwr_tools.proofs.lemmas.ReportsOn.{same_fault}
use Rattle.cwr_tools.proofs.lemmas.ReportsWhole.{verdict_cut, verdict_put}
use Rattle.cwr_tools.proofs.reporting.put_report.Goals as goal

pub returns-clause-puts : goal.returns-clause-puts
returns-clause-puts g c = λ of s.
    let after = c.in_ok-verdict.ensures.stands_put of s in
    verdict_put of c.args.limits _ _ g.W.Target.contents g.W.Target.failures c.in_ok-verdict.verdict after.0 tt c.args.sink.now
    c.put_items.new.sink c.put_verdict.new.sink after.1 after.3 (c.in_ok-put_verdict.ensures of after.0 after.2)

pub returns-in_err-put_verdict-clause-puts : goal.returns-in_err-put_verdict-clause-puts
returns-in_err-put_verdict-clause-puts g c = λ of s.
    let after = c.in_ok-verdict.ensures.stands_put of s in
    subst (λ (r : Result Verdict ToolFault). PutsReport of of.last c.args.limits (g.R.Source.remaining c.args.reader.now)
    (g.R.Source.remaining c.put_items.new.reader) g.W.Target.contents g.W.Target.failures r c.args.sink.now c.put_verdict.new.sink)
    (sym (same_fault c.from_residual-in_err-put_verdict.result c.in_err-put_verdict.field-0.0 c.from_residual-in_err-put_verdict.ensures.1))
    (verdict_cut of c.args.limits _ _ g.W.Target.contents g.W.Target.failures c.in_ok-verdict.verdict after.0
    c.in_err-put_verdict.field-0.0 c.args.sink.now c.put_items.new.sink c.put_verdict.new.sink after.1 after.3
    (c.in_err-put_verdict.ensures of after.0 after.2))
