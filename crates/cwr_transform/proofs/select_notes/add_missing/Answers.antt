use Rattle.cwr_devices.proofs.lemmas.Adding.{adds_both}
use Rattle.cwr_transform.proofs.select_notes.add_missing.Goals as goal

pub returns : goal.returns
returns g c = adds_both c.words.ensures (adds_both c.text.ensures c.words-2.ensures)
