use Rattle.cwr_devices.proofs.lemmas.Adding.{adds_as, adds_both}
use Rattle.cwr_notes.proofs.record_texts.head.Goals as goal

pub returns : goal.returns
returns g c = adds_both (adds_both c.number.ensures c.text.ensures) (adds_as c.letters.ensures c.text-2.ensures)
