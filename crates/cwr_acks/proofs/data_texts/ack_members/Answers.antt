use Rattle.std.proofs.Common.{refl, ap}
use Rattle.std.specs.Prelude.{codes}
use Rattle.cwr_devices.proofs.lemmas.Adding.{adds_as, adds_both}
use Rattle.cwr_delivery.proofs.lemmas.AckFields.{recipient, submitter, title}
use Rattle.cwr_delivery.proofs.lemmas.NamedCells.{cell_is}
use Rattle.cwr_acks.specs.Steps.DataTexts.{cell_member_if}
use Rattle.cwr_acks.proofs.data_texts.ack_members.Goals as goal

pub returns : goal.returns
returns g c =
    adds_both (adds_both (adds_both (adds_both (adds_both (adds_both (adds_both c.status_members.ensures
    c.original_members.ensures) c.level_member.ensures) (adds_as (ap (cell_member_if c.args.encoding (codes
    ",\"submitter\":")) (cell_is "submitter creation number" c.args.shown.now 10 20 _ refl (submitter c.args.shown.now
    c.requires) c.member_if.ensures.fits)) c.member_if.ensures.adds)) (adds_as (ap (cell_member_if c.args.encoding (codes
    ",\"recipient\":")) (cell_is "recipient creation number" c.args.shown.now 11 20 _ refl (recipient c.args.shown.now
    c.requires) c.member_if-2.ensures.fits)) c.member_if-2.ensures.adds)) (adds_as (ap (cell_member_if c.args.encoding (codes
    ",\"title\":")) (cell_is "creation title" c.args.shown.now 9 60 _ refl (title c.args.shown.now c.requires)
    c.member_if-3.ensures.fits)) c.member_if-3.ensures.adds)) c.notes_members_if.ensures) c.text.ensures
