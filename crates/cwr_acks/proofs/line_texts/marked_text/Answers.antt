use Rattle.std.proofs.Common.{ap}
use Rattle.std.specs.Prelude.{codes}
use Rattle.cwr_devices.proofs.lemmas.Adding.{adds_as, adds_both}
use Rattle.cwr_delivery.proofs.lemmas.AckFields.{submitter, title}
use Rattle.cwr_delivery.proofs.lemmas.NamedCells.{cell_is}
use Rattle.cwr_acks.specs.Format.AckTexts.{cell_part}
use Rattle.cwr_acks.proofs.line_texts.marked_text.Goals as goal

pub returns : goal.returns
returns g c =
    adds_both (adds_both (adds_both c.text.ensures c.original_text.ensures) (adds_as (ap (cell_part c.args.cells (codes
    " submitter ")) (cell_is "submitter creation number" c.args.shown.now 10 20 c.cell.result.now c.cell.ensures.value
    (submitter c.args.shown.now c.requires) c.cell.ensures.fits)) c.cell_part.ensures)) (adds_as (ap (cell_part c.args.cells
    (codes " title ")) (cell_is "creation title" c.args.shown.now 9 60 c.cell-2.result.now c.cell-2.ensures.value (title
    c.args.shown.now c.requires) c.cell-2.ensures.fits)) c.cell_part-2.ensures)
