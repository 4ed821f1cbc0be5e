use Rattle.std.proofs.Common.{ap, ◌∙◌}
use Rattle.cwr_shape.specs.Format.ReasonTexts.{level_text}
use Rattle.cwr_devices.proofs.lemmas.Adding.{adds_as, adds_both}
use Rattle.cwr_advise.proofs.advice_texts.advice_line.Goals as goal

pub returns : goal.returns
returns g c =
    adds_both (adds_both (adds_both (adds_both (adds_both (adds_both (adds_both (adds_both (adds_both (adds_both (adds_both
    (adds_both c.text.ensures c.number.ensures) c.text-2.ensures) c.number-2.ensures) c.text-3.ensures) c.number-3.ensures)
    c.text-4.ensures) c.number-4.ensures) c.text-5.ensures) (adds_as (c.letter.ensures.letter ∙ ap level_text c.level.ensures) c.words.ensures)) c.text-6.ensures)
    (adds_as c.name.ensures.name c.words-2.ensures)) c.text-7.ensures
