use Rattle.std.proofs.Common.{◌≡◌, true, sym, ap₂, ◌∙◌}
use Rattle.std.specs.Prelude.{codes}
use Rattle.std.specs.Str.{bytes_eq}
use Rattle.cwr_lines.specs.Format.Records.{cell_named}
use Rattle.cwr_advice.specs.Format.Rules.{is_header}
use Rattle.cwr_advice.proofs.lemmas.AdvisedFields.{and_true, named_version}
use Rattle.cwr_advice.proofs.advice_questions.is_version.Goals as goal

pub returns : goal.returns
returns c =
    let r = c.args.header.now in
    let header : is_header r ≡ true = sym c.is_header.ensures ∙ c.if-not-is_header.false in
    c.eq.ensures
    ∙ ap₂ bytes_eq (named_version r c.cell.result.now c.cell.ensures.value header c.cell.ensures.fits) c.as_slice.ensures
    ∙ and_true (is_header r) (bytes_eq (cell_named "version type" r) (codes "MOD")) header
