use Rattle.std.proofs.Common.{refl, sym, ap, ◌∙◌}
use Rattle.cwr_fields.specs.Format.Bytes.{is_spaces}
use Rattle.cwr_findings.specs.Format.Findings.{is_blank}
use Rattle.cwr_findings.proofs.lemmas.NamedCells.{named_cell}
use Rattle.cwr_advice.specs.Format.Rules.{is_header}
use Rattle.cwr_advice.proofs.lemmas.AdvisedFields.{and_true, composite_of_header}
use Rattle.cwr_advice.proofs.advice_questions.has_no_composite_type.Goals as goal

pub returns : goal.returns
returns c =
    let header = sym c.is_header.ensures ∙ c.if-not-is_header.false in
    c.is_spaces.ensures
    ∙ ap is_spaces (c.cell.ensures.value ∙ named_cell "composite type" c.args.header.now.kind 14 3 c.args.header.now
    (composite_of_header c.args.header.now header) refl c.cell.ensures.fits)
    ∙ and_true (is_header c.args.header.now) (is_blank "composite type" c.args.header.now) header
