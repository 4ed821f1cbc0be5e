use Rattle.cwr_devices.proofs.lemmas.Adding.{adds_both}
use Rattle.cwr_acks.proofs.line_texts.counts_text.Goals as goal

pub returns : goal.returns
returns g c =
    adds_both (adds_both (adds_both c.text.ensures c.number.ensures) c.status_parts.ensures) c.text-2.ensures
