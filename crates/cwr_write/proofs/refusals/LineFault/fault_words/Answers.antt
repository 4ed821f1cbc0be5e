use Rattle.std.specs.Prelude.{codes}
use Rattle.cwr_devices.proofs.lemmas.Adding.{adds_as, adds_both}
use Rattle.cwr_write.specs.Format.OutcomeTexts.{why_words}
use Rattle.cwr_write.proofs.lemmas.TextsTogether.{two_together}
use Rattle.cwr_write.proofs.refusals.LineFault.fault_words.Goals as goal

pub returns : goal.returns
returns g c =
    adds_both c.where_words.ensures
    (adds_as (two_together (codes ": ") (why_words c.args.self.now.why)) (adds_both c.text.ensures (adds_as c.words.ensures c.text-2.ensures)))
