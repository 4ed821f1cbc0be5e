use Rattle.std.proofs.Common.{ap, arith}
use Rattle.std.specs.Prelude.{codes}
use Rattle.cwr_devices.proofs.lemmas.Adding.{adds_as, adds_both}
use Rattle.cwr_delivery.proofs.lemmas.AckFields.{level, message_text, message_type, record_number, record_type, validation}
use Rattle.cwr_delivery.proofs.lemmas.NamedCells.{cell_is, cell_long}
use Rattle.cwr_acks.specs.Format.AckTexts.{cell_part, number_part, shown_as}
use Rattle.cwr_acks.proofs.line_texts.message_line.Goals as goal

pub number_part-requires : goal.number_part-requires
number_part-requires g c =
    let h = cell_long "original record sequence" c.args.shown.now 5 8 c.cell-3.result.now c.cell-3.ensures.value
    (record_number c.args.shown.now c.requires) c.cell-3.ensures.fits in omega (arith, h)

pub returns : goal.returns
returns g c =
    adds_both (adds_both (adds_both (adds_both (adds_both (adds_both (adds_both (adds_both (adds_both c.text.ensures (adds_as
    (cell_is "message level" c.args.shown.now 7 1 c.cell.result.now c.cell.ensures.value (level c.args.shown.now c.requires)
    c.cell.ensures.fits) c.text-2.ensures)) c.text-3.ensures) (adds_as (cell_is "message type" c.args.shown.now 4 1
    c.cell-2.result.now c.cell-2.ensures.value (message_type c.args.shown.now c.requires) c.cell-2.ensures.fits)
    c.text-4.ensures)) (adds_as (ap (number_part (codes " record ")) (cell_is "original record sequence" c.args.shown.now 5 8
    c.cell-3.result.now c.cell-3.ensures.value (record_number c.args.shown.now c.requires) c.cell-3.ensures.fits))
    c.number_part.ensures)) (adds_as (ap (cell_part c.args.cells (codes " ")) (cell_is "message record type" c.args.shown.now
    6 3 c.cell-4.result.now c.cell-4.ensures.value (record_type c.args.shown.now c.requires) c.cell-4.ensures.fits))
    c.cell_part.ensures)) (adds_as (ap (cell_part c.args.cells (codes " validation ")) (cell_is "validation number"
    c.args.shown.now 8 3 c.cell-5.result.now c.cell-5.ensures.value (validation c.args.shown.now c.requires)
    c.cell-5.ensures.fits)) c.cell_part-2.ensures)) c.text-5.ensures) (adds_as (ap (shown_as c.args.cells) (cell_is
    "message text" c.args.shown.now 9 150 c.cell-6.result.now c.cell-6.ensures.value (message_text c.args.shown.now c.requires)
    c.cell-6.ensures.fits)) c.shown_as.ensures)) c.text-6.ensures
