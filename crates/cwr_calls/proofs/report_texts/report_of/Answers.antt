use Rattle.std.proofs.Common.{Some, rules}
use Rattle.cwr_calls.proofs.lemmas.ReportedTexts.{judged_on, text_reported}
use Rattle.cwr_calls.proofs.report_texts.report_of.Goals as goal

pub returns-clause-judged : goal.returns-clause-judged
returns-clause-judged g c =
    judged_on c.args.limits (Some c.new-reader.result.left.now) c.args.text.now c.write_report-writer.result.1 (search rules)
    (c.write_report-writer.ensures.runs c.requires.0 c.requires.1).judged

pub returns-clause-written : goal.returns-clause-written
returns-clause-written g c = λ of stands.
    text_reported of c.args.limits (Some c.new-reader.result.left.now) _ c.args.text.now c.into_inner.result.items
    (λ w. Some w.inner.items) c.new-writer.result c.write_report-writer.result.0 c.write_report-writer.result.1
    (c.write_report-writer.ensures.runs of stands).reported (search rules) (search rules) (search rules)
