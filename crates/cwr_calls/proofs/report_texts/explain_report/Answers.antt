use Rattle.std.proofs.Common.{rules}
use Rattle.cwr_calls.proofs.lemmas.ReportedTexts.{explained_on_items}
use Rattle.cwr_calls.proofs.report_texts.explain_report.Goals as goal

pub returns-clause-written : goal.returns-clause-written
returns-clause-written c =
    explained_on_items c.args.limits _ _ _ c.args.text.now c.into_inner.result.items _ c.new-writer.result c.explain-writer.result.0
    c.explain-writer.result.1 (search rules) (search rules) (search rules) c.explain-writer.ensures.explains
