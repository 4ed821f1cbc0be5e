use Rattle.cwr_devices.proofs.lemmas.Adding.{adds_as, adds_both}
use Rattle.cwr_acks.proofs.line_texts.status_part.Goals as goal

pub returns : goal.returns
returns g c =
    adds_both (adds_both (adds_both c.text.ensures (adds_as c.code.ensures c.words.ensures)) c.text-2.ensures)
    c.number.ensures
