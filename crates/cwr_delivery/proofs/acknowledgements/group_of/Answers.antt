use Rattle.std.proofs.Common.{ap, ◌∙◌, arith}
use Rattle.cwr_fields.specs.Format.Bytes.{number_of}
use Rattle.cwr_delivery.proofs.lemmas.AckFields.{group}
use Rattle.cwr_delivery.proofs.lemmas.NamedCells.{cell_is, cell_long}
use Rattle.cwr_delivery.proofs.acknowledgements.group_of.Goals as goal

pub number_of-requires : goal.number_of-requires
number_of-requires c =
    let h =
    cell_long "original group id" c.args.head.now 6 5 c.cell.result.now c.cell.ensures.value (group c.args.head.now c.requires)
    c.cell.ensures.fits in omega (arith, h)

pub returns : goal.returns
returns c =
    c.number_of.ensures.value ∙ ap number_of (cell_is "original group id" c.args.head.now 6 5 c.cell.result.now
    c.cell.ensures.value (group c.args.head.now c.requires) c.cell.ensures.fits)
