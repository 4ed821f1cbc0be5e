use Rattle.std.proofs.Common.{sym, ap, ◌∙◌}
use Rattle.cwr_fields.specs.Format.Bytes.{is_spaces}
use Rattle.cwr_findings.proofs.lemmas.RuleTests.{blank_excerpt_type}
use Rattle.cwr_findings.proofs.finding_questions.has_no_excerpt_type.Goals as goal

pub returns-in-Some : goal.returns-in-Some
returns-in-Some c = c.is_spaces.ensures ∙ ap is_spaces c.cell.ensures.value
    ∙ blank_excerpt_type c.args.transaction.now c.in-Some.header (sym c.record.ensures.value ∙ c.in-Some.is) c.requires
    c.cell.ensures.fits
