use Rattle.std.proofs.Common.{Option, ap, ◌∙◌}
use Rattle.cwr_fields.specs.declared.message_codes.TransactionStatus.{TransactionStatus}
use Rattle.cwr_devices.proofs.lemmas.Adding.{adds_as, adds_both}
use Rattle.cwr_delivery.proofs.lemmas.AckFields.{status}
use Rattle.cwr_delivery.proofs.lemmas.NamedCells.{cell_is}
use Rattle.cwr_acks.specs.Format.AckTexts.{status_words}
use Rattle.cwr_acks.proofs.line_texts.status_text.Goals as goal

pub returns : goal.returns
returns g c =
    adds_both (adds_both (adds_as (cell_is "transaction status" c.args.shown.now 13 2 c.cell.result.now c.cell.ensures.value
    (status c.args.shown.now c.requires) c.cell.ensures.fits) c.text.ensures) c.text-2.ensures) (adds_as (c.words_of.ensures ∙
    ap (λ (o : Option TransactionStatus). status_words o) c.status_of.ensures) c.words.ensures)
