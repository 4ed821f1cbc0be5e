use Rattle.std.proofs.Common.{sym, ap, ◌∙◌}
use Rattle.cwr_lines.specs.Format.Carried.{carried_at}
use Rattle.cwr_fields.specs.Steps.Views.{field_view}
use Rattle.cwr_notes.specs.Steps.Labels.{labelled}
use Rattle.cwr_devices.proofs.lemmas.Adding.{adds_as, adds_nothing}
use Rattle.cwr_notes.proofs.lemmas.LabelledCells.{labelled-none, labelled-some}
use Rattle.cwr_notes.proofs.record_texts.labelled_field.Goals as goal

pub returns-in_default : goal.returns-in_default
returns-in_default g c =
    adds_as (sym (ap (labelled c.args.j (carried_at c.args.shown.now.kind c.args.j)) (sym c.in_default.ensures.value)
    ∙ labelled-none c.args.j (carried_at c.args.shown.now.kind c.args.j))) adds_nothing

pub returns : goal.returns
returns g c =
    adds_as (labelled-some c.args.shown.now c.args.j c.args.label.now (field_view c.in-Some.field-0-0) c.in-Some.cell.now
    c.in-Some.ensures.value c.in-Some.ensures.place c.requires.label) c.labelled_cell.ensures
