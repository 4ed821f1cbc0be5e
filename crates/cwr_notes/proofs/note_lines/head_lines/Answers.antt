use Rattle.std.proofs.Common.{ap}
use Rattle.cwr_devices.proofs.lemmas.Adding.{adds_as, adds_both}
use Rattle.cwr_notes.specs.Format.FindingNotes.{where_line}
use Rattle.cwr_notes.proofs.note_lines.head_lines.Goals as goal

pub returns : goal.returns
returns g c =
    adds_both (adds_both (adds_both (adds_both (adds_both (adds_both (adds_both (adds_as (ap (where_line c.args.number) c.kind.ensures.value) c.where_line.ensures) (adds_as
    c.as_slice.ensures.value c.text.ensures)) c.text-2.ensures) (adds_as c.rule_words.ensures.value c.words.ensures))
    c.text-3.ensures) (adds_as c.level_words.ensures.value c.words-2.ensures)) c.text-4.ensures) c.noted_cells.ensures
