use Rattle.std.proofs.Common.{rules}
use Rattle.cwr_devices.proofs.lemmas.Adding.{adds_as, adds_both}
use Rattle.cwr_advise.proofs.advice_texts.repeated_text.Goals as goal

pub returns-then-repeated : goal.returns-then-repeated
returns-then-repeated g c = adds_both c.repeated_lines_if.ensures (adds_as (search rules) c.limit_line.ensures)
