use Rattle.std.proofs.Common.{None, Some, rules}
use Rattle.cwr_summary.specs.Format.Summaries.{lines_of_nothing}
use Rattle.cwr_calls.proofs.lemmas.ReportedTexts.{lacks}
use Rattle.cwr_calls.proofs.lemmas.SummedTexts.{summed_on}
use Rattle.cwr_calls.proofs.summing.summarize.Goals as goal

pub returns-clause-summed : goal.returns-clause-summed
returns-clause-summed c =
    summed_on _ c.args.limits (Some c.new-reader.result.left.now) _ c.args.text.now c.summary.result.numbers
    c.write_report-found.result.1 (search rules) (c.write_report-found.ensures.stands lines_of_nothing c.new-items.ensures.stands)
    (c.summary.ensures lines_of_nothing)

pub returns-clause-memory : goal.returns-clause-memory
returns-clause-memory c =
    let runs = c.write_report-found.ensures.runs lines_of_nothing c.new-items.ensures.stands in
    lacks lines_of_nothing c.args.limits (Some c.new-reader.result.left.now) _ c.args.text.now (λ w. None) c.new.result
    c.write_report-found.result.0 c.write_report-found.result.1 (search rules) runs.reported runs.reader_failures runs.writer_failures
