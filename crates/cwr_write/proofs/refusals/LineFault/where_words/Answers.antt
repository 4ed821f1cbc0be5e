use Rattle.cwr_devices.proofs.lemmas.Adding.{adds_both}
use Rattle.cwr_write.proofs.refusals.LineFault.where_words.Goals as goal

pub returns : goal.returns
returns g c = adds_both (adds_both c.record_words.ensures c.kind_words.ensures) c.key_words.ensures
