use Rattle.std.proofs.Common.{[], refl}
use Rattle.cwr_tools.specs.Format.Reports.{has_findings}
use Rattle.cwr_tools.proofs.lemmas.ReportSteps.{next_lines}
use Rattle.cwr_summary.specs.Format.Summaries.{lines_of_nothing}
use Rattle.cwr_summary.proofs.lemmas.Summed.{nothing_added, summed_more}
use Rattle.cwr_summary.proofs.summing.SummedItemsReport.item_lines.Goals as goal

pub returns-clause-adds : goal.returns-clause-adds
returns-clause-adds g c = λ of given counted e.
    next_lines g.W.Target.contents g.W.Target.failures of lines_of_nothing given c.args.item.now [] c.add_item.result c.args.arg5.now
    c.args.arg5.now e.0 refl
    (nothing_added g.W.Target.contents g.W.Target.failures (has_findings c.args.item.now) c.add_item.result c.args.arg5.now
    c.add_item.ensures.memory)

pub returns-clause-stands : goal.returns-clause-stands
returns-clause-stands g c = λ of given counted e.
    summed_more of given c.args.item.now c.args.self.now.summary.numbers c.add_item.new.self.numbers c.add_item.result e.0 e.1
    c.add_item.ensures.ok
