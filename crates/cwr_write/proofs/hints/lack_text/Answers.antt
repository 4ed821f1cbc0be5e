use Rattle.std.specs.Prelude.{codes}
use Rattle.cwr_devices.proofs.lemmas.Adding.{adds_as, adds_both}
use Rattle.cwr_write.specs.Format.OutcomeTexts.{lack_words}
use Rattle.cwr_write.proofs.lemmas.TextsTogether.{three_together}
use Rattle.cwr_write.proofs.hints.lack_text.Goals as goal

pub returns : goal.returns
returns g c =
    adds_as (three_together (codes "  ") (lack_words c.args.lack) (codes "\n"))
    (adds_both (adds_both c.text.ensures (adds_as c.lack_words.ensures c.text-2.ensures)) c.text-3.ensures)
