use Rattle.std.proofs.Common.{ap}
use Rattle.cwr_devices.proofs.lemmas.Adding.{adds_as, adds_both}
use Rattle.cwr_acks.specs.Steps.DataTexts.{shown_cell}
use Rattle.cwr_acks.proofs.data_texts.member.Goals as goal

pub returns-clause-adds : goal.returns-clause-adds
returns-clause-adds g c =
    adds_both c.text.ensures (adds_as (ap (shown_cell c.args.encoding) c.cell.ensures.value) c.shown_cell.ensures)
