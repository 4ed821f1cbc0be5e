use Rattle.cwr_devices.proofs.lemmas.Adding.{adds_both}
use Rattle.cwr_notes.proofs.record_texts.head_line.Goals as goal

pub returns : goal.returns
returns g c = adds_both c.head.ensures c.text.ensures
