use Rattle.cwr_devices.proofs.lemmas.Adding.{adds_as, adds_both}
use Rattle.cwr_advise.proofs.advice_texts.words_line.Goals as goal

pub returns : goal.returns
returns g c = adds_both (adds_both c.text.ensures (adds_as c.words.ensures.words c.words-2.ensures)) c.text-2.ensures
