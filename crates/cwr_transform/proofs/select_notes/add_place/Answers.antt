use Rattle.cwr_devices.proofs.lemmas.Adding.{adds_both}
use Rattle.cwr_transform.proofs.select_notes.add_place.Goals as goal

pub returns : goal.returns
returns g c = adds_both c.words.ensures (adds_both c.number.ensures (adds_both c.words-2.ensures (adds_both c.number-2.ensures c.words-3.ensures)))
