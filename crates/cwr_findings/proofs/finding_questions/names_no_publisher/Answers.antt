use Rattle.std.proofs.Common.{sym, ap, ◌∙◌}
use Rattle.std.specs.Prelude.{not}
use Rattle.cwr_findings.proofs.lemmas.RuleTests.{unknown_publisher}
use Rattle.cwr_findings.proofs.finding_questions.names_no_publisher.Goals as goal

pub returns-then-is_of : goal.returns-then-is_of
returns-then-is_of c = λ k work. ap not c.have.ensures
    ∙ unknown_publisher c.args.transaction.now c.args.shown.now c.cell.result.now c.args.totals.now.publishers_end k
    c.requires.totals.publishers work (sym c.is_of.ensures ∙ c.if-is_of.true) c.cell.ensures.fits c.cell.ensures.value
