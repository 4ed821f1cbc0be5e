use Rattle.std.proofs.Common.{refl, ap, arith}
use Rattle.std.specs.Prelude.{codes}
use Rattle.cwr_devices.proofs.lemmas.Adding.{adds_as, adds_both}
use Rattle.cwr_delivery.proofs.lemmas.AckFields.{level, message_text, message_type, record_number, record_type, validation}
use Rattle.cwr_delivery.proofs.lemmas.NamedCells.{cell_is, cell_long}
use Rattle.cwr_acks.specs.Format.AckTexts.{number_part}
use Rattle.cwr_acks.specs.Steps.DataTexts.{cell_member, cell_member_if}
use Rattle.cwr_acks.proofs.data_texts.message_part.Goals as goal

pub number_part-requires : goal.number_part-requires
number_part-requires g c =
    let h = cell_long "original record sequence" c.args.shown.now 5 8 c.cell.result.now c.cell.ensures.value (record_number
    c.args.shown.now c.requires) c.cell.ensures.fits in omega (arith, h)

pub returns : goal.returns
returns g c =
    adds_both (adds_both (adds_both (adds_both (adds_both (adds_both (adds_both c.comma_if.ensures (adds_as (ap (cell_member
    c.args.encoding (codes "{\"level\":")) (cell_is "message level" c.args.shown.now 7 1 _ refl (level c.args.shown.now
    c.requires) c.member.ensures.fits)) c.member.ensures.adds)) (adds_as (ap (cell_member c.args.encoding (codes
    ",\"type\":")) (cell_is "message type" c.args.shown.now 4 1 _ refl (message_type c.args.shown.now c.requires)
    c.member-2.ensures.fits)) c.member-2.ensures.adds)) (adds_as (ap (number_part (codes ",\"record\":")) (cell_is
    "original record sequence" c.args.shown.now 5 8 c.cell.result.now c.cell.ensures.value (record_number c.args.shown.now
    c.requires)
    c.cell.ensures.fits)) c.number_part.ensures)) (adds_as (ap (cell_member_if c.args.encoding (codes ",\"record_type\":"))
    (cell_is "message record type" c.args.shown.now 6 3 _ refl (record_type c.args.shown.now c.requires)
    c.member_if.ensures.fits)) c.member_if.ensures.adds)) (adds_as (ap (cell_member_if c.args.encoding (codes
    ",\"validation\":")) (cell_is "validation number" c.args.shown.now 8 3 _ refl (validation c.args.shown.now c.requires)
    c.member_if-2.ensures.fits)) c.member_if-2.ensures.adds)) (adds_as (ap (cell_member c.args.encoding (codes ",\"text\":"))
    (cell_is "message text" c.args.shown.now 9 150 _ refl (message_text c.args.shown.now c.requires) c.member-3.ensures.fits))
    c.member-3.ensures.adds)) c.text.ensures
