use Rattle.std.proofs.Common.{ap}
use Rattle.cwr_devices.proofs.lemmas.Adding.{adds_as, adds_both}
use Rattle.cwr_notes.specs.Format.FindingNotes.{more_line}
use Rattle.cwr_notes.proofs.note_lines.tail_lines.Goals as goal

pub returns : goal.returns
returns g c =
    adds_both (adds_both (adds_as (ap more_line c.saturating_sub.ensures) c.more_line.ensures) c.total_line.ensures) c.gap.ensures
