use Rattle.cwr_devices.proofs.lemmas.Adding.{adds_both}
use Rattle.cwr_write.proofs.refusals.quoted_key.Goals as goal

pub returns : goal.returns
returns g c = adds_both (adds_both c.text.ensures c.shown_bytes.ensures) c.text-2.ensures
