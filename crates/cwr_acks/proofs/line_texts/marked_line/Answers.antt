use Rattle.cwr_devices.proofs.lemmas.Adding.{adds_both}
use Rattle.cwr_acks.proofs.line_texts.marked_line.Goals as goal

pub returns : goal.returns
returns g c =
    adds_both (adds_both c.marked_text.ensures c.value_part.ensures) c.text.ensures
