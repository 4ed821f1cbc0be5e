use Rattle.std.specs.Prelude.{codes, decimal}
use Rattle.cwr_devices.proofs.lemmas.Adding.{adds_as, adds_both}
use Rattle.cwr_write.specs.Format.OutcomeTexts.{written_text}
use Rattle.cwr_write.proofs.lemmas.TextsTogether.{five_together}
use Rattle.cwr_write.proofs.writing.written_text.Goals as goal

pub returns : goal.returns
unfolding written_text
returns g c =
    adds_as (five_together (codes "WRITTEN lines ") (decimal c.args.written.now.lines) (codes " bytes ")
    (decimal c.args.written.now.bytes) (codes "\n"))
    (adds_both (adds_both (adds_both (adds_both c.text.ensures c.number.ensures) c.text-2.ensures) c.number-2.ensures)
    c.text-3.ensures)
