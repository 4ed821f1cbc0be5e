use Rattle.cwr_devices.proofs.lemmas.Adding.{adds_both}
use Rattle.cwr_notes.proofs.note_lines.total_line.Goals as goal

pub returns-in-V9 : goal.returns-in-V9
returns-in-V9 g c = rw c.in-V9.is (adds_both (adds_both c.text.ensures c.number.ensures) c.text-in-V9.ensures)
