use Rattle.std.proofs.Common.{ap, ◌∙◌}
use Rattle.cwr_devices.proofs.lemmas.Adding.{adds_as}
use Rattle.cwr_notes.specs.Format.FindingNotes.{number_of_field}
use Rattle.cwr_notes.proofs.lemmas.FieldNames.{named_at}
use Rattle.cwr_notes.proofs.note_lines.named_line.Goals as goal

pub returns : goal.returns
returns g c =
    adds_as (named_at c.args.number c.args.shown.now c.args.name.now c.number_of_field.result
    (c.number_of_field.ensures ∙ ap (number_of_field c.args.name.now) c.kind.ensures.value)) c.cell_note.ensures
