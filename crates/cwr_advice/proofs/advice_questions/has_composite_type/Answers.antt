use Rattle.std.proofs.Common.{◌≡◌, true, sym, ap, ◌∙◌}
use Rattle.std.specs.Prelude.{not}
use Rattle.cwr_findings.specs.Format.Findings.{is_blank}
use Rattle.cwr_advice.specs.Format.Rules.{is_header}
use Rattle.cwr_advice.proofs.lemmas.AdvisedFields.{and_true, blank_composite}
use Rattle.cwr_advice.proofs.advice_questions.has_composite_type.Goals as goal

pub returns : goal.returns
returns c =
    let r = c.args.header.now in
    let header : is_header r ≡ true = sym c.is_header.ensures ∙ c.if-not-is_header.false in
    ap not (c.is_spaces.ensures ∙ blank_composite r c.cell.result.now c.cell.ensures.value header c.cell.ensures.fits)
    ∙ and_true (is_header r) (not (is_blank "composite type" r)) header
