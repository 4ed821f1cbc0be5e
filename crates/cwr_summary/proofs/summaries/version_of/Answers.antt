use Rattle.std.proofs.Common.{Bool, sym, ap, ◌∙◌, if◌then◌else◌}
use Rattle.cwr_fields.specs.declared.work_codes.VersionType.TheVariants as versions
use Rattle.cwr_summary.proofs.lemmas.Headers.{version_is}
use Rattle.cwr_summary.proofs.summaries.version_of.Goals as goal

pub returns-in-true : goal.returns-in-true
returns-in-true c =
    ap (λ (b : Bool). if b then versions.Modified else versions.Original) (sym c.in-true.is)
    ∙ version_is c.args.head.now c.cell.result.now c.as_slice.result.now c.eq-is_modified.result c.cell.ensures.value c.cell.ensures.fits
    c.requires c.eq-is_modified.ensures c.as_slice.ensures

pub returns-in-false : goal.returns-in-false
returns-in-false c =
    ap (λ (b : Bool). if b then versions.Modified else versions.Original) (sym c.in-false.is)
    ∙ version_is c.args.head.now c.cell.result.now c.as_slice.result.now c.eq-is_modified.result c.cell.ensures.value c.cell.ensures.fits
    c.requires c.eq-is_modified.ensures c.as_slice.ensures
