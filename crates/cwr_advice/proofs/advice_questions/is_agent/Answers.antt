use Rattle.std.proofs.Common.{refl, sym, ap, ◌∙◌}
use Rattle.cwr_lines.specs.Format.Records.{cell_named}
use Rattle.cwr_findings.proofs.lemmas.NamedCells.{named_cell}
use Rattle.cwr_advice.specs.Format.Rules.{is_publisher, names_agent}
use Rattle.cwr_advice.proofs.lemmas.AdvisedFields.{and_true, type_of_publisher}
use Rattle.cwr_advice.proofs.advice_questions.is_agent.Goals as goal

pub returns : goal.returns
returns c =
    let publisher = sym c.is_publisher.ensures ∙ c.if-not-is_publisher.false in
    c.names_agent.ensures
    ∙ ap names_agent (c.cell.ensures.value ∙ named_cell "publisher type" c.args.shown.now.kind 8 2 c.args.shown.now
    (type_of_publisher c.args.shown.now publisher) refl c.cell.ensures.fits)
    ∙ and_true (is_publisher c.args.shown.now) (names_agent (cell_named "publisher type" c.args.shown.now)) publisher
