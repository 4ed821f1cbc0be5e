use Rattle.cwr_devices.proofs.lemmas.Adding.{adds_both}
use Rattle.cwr_write.specs.Format.OutcomeTexts.{refused_text}
use Rattle.cwr_write.proofs.refusals.Refusal.refused_text.Goals as goal

pub returns : goal.returns
unfolding refused_text
returns g c = adds_both (adds_both c.line_words.ensures c.fault_words.ensures) c.text.ensures
