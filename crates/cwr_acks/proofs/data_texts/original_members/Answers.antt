use Rattle.std.proofs.Common.{refl, ap}
use Rattle.std.specs.Prelude.{codes, decimal}
use Rattle.cwr_devices.proofs.lemmas.Adding.{adds_as, adds_both}
use Rattle.cwr_delivery.proofs.lemmas.AckFields.{original_type}
use Rattle.cwr_delivery.proofs.lemmas.NamedCells.{cell_is}
use Rattle.cwr_acks.specs.Steps.DataTexts.{cell_member}
use Rattle.cwr_acks.proofs.data_texts.original_members.Goals as goal

pub returns : goal.returns
returns g c =
    adds_both (adds_both (adds_both (adds_both c.text.ensures (adds_as (ap decimal c.group_of.ensures) c.number.ensures))
    c.text-2.ensures) (adds_as (ap decimal c.sequence_of.ensures) c.number-2.ensures)) (adds_as (ap (cell_member
    c.args.encoding (codes ",\"type\":")) (cell_is "original transaction type" c.args.shown.now 8 3 _ refl (original_type
    c.args.shown.now c.requires) c.member.ensures.fits)) c.member.ensures.adds)
