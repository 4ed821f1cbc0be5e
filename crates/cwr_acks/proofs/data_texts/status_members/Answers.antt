use Rattle.std.proofs.Common.{refl, ap, ◌∙◌}
use Rattle.std.specs.Prelude.{Option, codes}
use Rattle.cwr_fields.specs.declared.message_codes.TransactionStatus.{TransactionStatus}
use Rattle.cwr_devices.proofs.lemmas.Adding.{adds_as, adds_both}
use Rattle.cwr_delivery.proofs.lemmas.AckFields.{status}
use Rattle.cwr_delivery.proofs.lemmas.NamedCells.{cell_is}
use Rattle.cwr_acks.specs.Format.AckTexts.{status_words}
use Rattle.cwr_acks.specs.Steps.DataTexts.{cell_member}
use Rattle.cwr_acks.proofs.data_texts.status_members.Goals as goal

pub returns : goal.returns
returns g c =
    adds_both (adds_both (adds_both (adds_as (ap (cell_member c.args.encoding (codes "\"status\":")) (cell_is
    "transaction status" c.args.shown.now 13 2 _ refl (status c.args.shown.now c.requires) c.member.ensures.fits))
    c.member.ensures.adds)
    c.text.ensures) (adds_as (c.words_of.ensures ∙ ap (λ (o : Option TransactionStatus). status_words o) c.status_of.ensures)
    c.words.ensures)) c.text-2.ensures
