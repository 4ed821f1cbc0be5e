use Rattle.std.specs.Prelude.{codes, decimal}
use Rattle.cwr_devices.proofs.lemmas.Adding.{adds_as, adds_both}
use Rattle.cwr_write.proofs.lemmas.TextsTogether.{two_together}
use Rattle.cwr_write.proofs.refusals.line_words.Goals as goal

pub returns : goal.returns
returns g c = adds_as (two_together (codes "REFUSED line ") (decimal c.args.line)) (adds_both c.text.ensures c.number.ensures)
