use Rattle.std.proofs.Common.{◌∙◌}
use Rattle.cwr_devices.proofs.lemmas.Adding.{adds_as, adds_both}
use Rattle.cwr_tables.proofs.lemmas.PlainTexts.{letters_cell}
use Rattle.cwr_tables.proofs.work_texts.next_letters.Goals as goal

pub returns : goal.returns
returns g c = adds_both c.text.ensures (adds_as (c.letters.ensures ∙ letters_cell c.args.kind) c.text-2.ensures)
