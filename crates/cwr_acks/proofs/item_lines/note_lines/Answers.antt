use Rattle.cwr_devices.proofs.lemmas.Adding.{adds_both}
use Rattle.cwr_acks.proofs.item_lines.note_lines.Goals as goal

pub returns : goal.returns
returns g c =
    adds_both (adds_both (adds_both c.marked_if.ensures c.outcome_line.ensures) c.marked_if-2.ensures) c.marked_if-3.ensures
