use Rattle.std.proofs.Common.{rules, true}
use Rattle.cwr_calls.proofs.lemmas.ReportedTexts.{lint_on_items}
use Rattle.cwr_calls.proofs.report_texts.explained_lint_report.Goals as goal

pub returns-clause-written : goal.returns-clause-written
returns-clause-written c =
    lint_on_items true c.args.limits _ _ c.args.text.now c.into_inner.result.items _ c.new-writer.result c.lint-writer.result.0
    c.lint-writer.result.1 c.lint-writer.ensures.lints (search rules) (search rules) (search rules)
    c.lint-writer.ensures.tells
