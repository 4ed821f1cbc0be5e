use Rattle.std.proofs.Common.{ap, ◌∙◌, arith}
use Rattle.std.specs.Prelude.{decimal}
use Rattle.cwr_fields.specs.Format.Bytes.{number_of, trimmed}
use Rattle.cwr_devices.proofs.lemmas.Adding.{adds_as, adds_both}
use Rattle.cwr_delivery.proofs.lemmas.AckFields.{group, original_type, sequence}
use Rattle.cwr_delivery.proofs.lemmas.NamedCells.{cell_is, cell_long}
use Rattle.cwr_acks.proofs.line_texts.original_text.Goals as goal

pub number_of-requires : goal.number_of-requires
number_of-requires g c =
    let h = cell_long "original group id" c.args.shown.now 6 5 c.cell.result.now c.cell.ensures.value (group c.args.shown.now
    c.requires) c.cell.ensures.fits in omega (arith, h)

pub number_of-requires-2 : goal.number_of-requires-2
number_of-requires-2 g c =
    let h = cell_long "original transaction sequence" c.args.shown.now 7 8 c.cell-2.result.now c.cell-2.ensures.value
    (sequence c.args.shown.now c.requires) c.cell-2.ensures.fits in omega (arith, h)

pub returns : goal.returns
returns g c =
    adds_both (adds_both (adds_both (adds_both (adds_both c.text.ensures (adds_as (ap decimal (c.number_of.ensures.value ∙ ap
    number_of (cell_is "original group id" c.args.shown.now 6 5 c.cell.result.now c.cell.ensures.value (group c.args.shown.now
    c.requires) c.cell.ensures.fits))) c.number.ensures)) c.text-2.ensures) (adds_as (ap decimal (c.number_of-2.ensures.value
    ∙ ap number_of (cell_is "original transaction sequence" c.args.shown.now 7 8 c.cell-2.result.now c.cell-2.ensures.value
    (sequence c.args.shown.now c.requires) c.cell-2.ensures.fits))) c.number-2.ensures)) c.text-3.ensures) (adds_as
    (c.trimmed.ensures ∙ ap trimmed (cell_is "original transaction type" c.args.shown.now 8 3 c.cell-3.result.now
    c.cell-3.ensures.value (original_type c.args.shown.now c.requires) c.cell-3.ensures.fits)) c.text-4.ensures)
