use Rattle.cwr_devices.proofs.lemmas.Adding.{adds_both}
use Rattle.cwr_acks.proofs.item_lines.answer_parts.Goals as goal

pub returns : goal.returns
returns g c =
    adds_both (adds_both c.opening_in.ensures c.messages_in.ensures) c.closing_as.ensures
