use Rattle.std.proofs.Common.{◌≡◌, Some, None, sym, ap, ◌∙◌}
use Rattle.std.specs.Prelude.{option_map}
use Rattle.cwr_fields.specs.declared.kinds.Kind.{Kind}
use Rattle.cwr_fields.specs.Format.Layouts.{field_with_start}
use Rattle.cwr_fields.specs.Steps.Views.{field_view}
use Rattle.cwr_devices.proofs.lemmas.Adding.{adds_as, adds_nothing}
use Rattle.cwr_notes.specs.Format.FindingNotes.{noted_line}
use Rattle.cwr_notes.proofs.lemmas.FieldNames.{carried_note, no_note, uncarried_note}
use Rattle.cwr_notes.proofs.note_lines.cell_note.Goals as goal

pub returns-in_default : goal.returns-in_default
returns-in_default g c =
    adds_as (sym (uncarried_note c.args.number c.args.shown.now c.args.j c.in_default.ensures.value)) adds_nothing

pub returns-in_default-field : goal.returns-in_default-field
returns-in_default-field g c =
    let place : None ≡ field_with_start c.args.shown.now.kind c.args.j
    = sym (ap (option_map field_view) c.in_default-field.is) ∙ c.field.ensures
    ∙ ap (λ (kind : Kind). field_with_start kind c.args.j) c.kind-kind.ensures.value in
    adds_as (sym (no_note c.args.number c.args.shown.now c.args.j place)) adds_nothing

pub returns : goal.returns
returns g c =
    let place : Some (field_view c.in-Some-field.place) ≡ field_with_start c.args.shown.now.kind c.args.j
    = sym (ap (option_map field_view) c.in-Some-field.is) ∙ c.field.ensures
    ∙ ap (λ (kind : Kind). field_with_start kind c.args.j) c.kind-kind.ensures.value in
    adds_as (ap (λ (kind : Kind). noted_line c.args.number kind (Some (field_view c.in-Some-field.place).1) (Some c.in-Some.cell.now))
    c.kind-kind.ensures.value
    ∙ carried_note c.args.number c.args.shown.now c.args.j (field_view c.in-Some-field.place) c.in-Some.cell.now
    c.in-Some.ensures.value place) c.noted_line.ensures
