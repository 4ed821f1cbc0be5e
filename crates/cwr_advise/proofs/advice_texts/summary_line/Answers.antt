use Rattle.std.proofs.Common.{rules}
use Rattle.cwr_devices.proofs.lemmas.Adding.{adds_as, adds_both}
use Rattle.cwr_advise.proofs.advice_texts.summary_line.Goals as goal

pub returns : goal.returns
returns g c =
    adds_as (search rules) (adds_both (adds_both (adds_both (adds_both (adds_both (adds_both c.text.ensures
    (adds_as c.name.ensures.name c.words.ensures)) c.text-2.ensures) c.number.ensures) c.text-3.ensures) c.number-2.ensures)
    c.text-4.ensures)
