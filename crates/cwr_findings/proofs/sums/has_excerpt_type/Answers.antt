use Rattle.std.proofs.Common.{ap, ◌∙◌}
use Rattle.cwr_fields.specs.Format.Bytes.{is_spaces}
use Rattle.cwr_findings.proofs.lemmas.SummedRecords.{excerpt_there}
use Rattle.cwr_findings.proofs.sums.has_excerpt_type.Goals as goal

pub returns : goal.returns
returns c =
    λ yes. excerpt_there c.args.header.now c.is_spaces.result c.requires c.cell.ensures.fits
    (c.is_spaces.ensures ∙ ap is_spaces c.cell.ensures.value) yes
