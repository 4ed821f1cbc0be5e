use Rattle.std.proofs.Common.{◌≡◌, ◌∙◌, Some, None, option_map, sym, ap}
use Rattle.cwr_lines.specs.Steps.Held.{IsFilled}
use Rattle.cwr_fields.specs.Format.Layouts.{field_with_start}
use Rattle.cwr_fields.specs.Steps.Views.{field_view}
use Rattle.cwr_lines.proofs.lemmas.CellParts.{filled_now, held_part_within, held_cell_found, no_held_cell_found}
use Rattle.cwr_lines.proofs.lines.CutLine.cell.Goals as goal

pub returns-in_err-place : goal.returns-in_err-place
returns-in_err-place c =
    let l = c.self.inside in
    let filled : IsFilled l.text.now (Some c.in_ok-self.field-0) c.args.self.now =
    filled_now l.text.now l.count l.has_return l.kind l.ended c.in_ok-self.field-0 c.args.self.now c.self.invariant.0
    c.self.view_is c.in_ok-self.was in
    let none : field_with_start c.in_ok-self.field-0 c.args.j ≡ None =
    sym c.field.ensures ∙ ap (option_map field_view) c.in_err-place.was in
    rw c.from_residual-in_err-place.ensures
    (sym (no_held_cell_found l.text.now c.args.self.now c.in_ok-self.field-0 c.args.j filled none))

pub part-requires : goal.part-requires
part-requires c =
    let l = c.self.inside in
    let filled : IsFilled l.text.now (Some c.in_ok-self.field-0) c.args.self.now =
    filled_now l.text.now l.count l.has_return l.kind l.ended c.in_ok-self.field-0 c.args.self.now c.self.invariant.0
    c.self.view_is c.in_ok-self.was in
    held_part_within l.text.now c.args.self.now c.in_ok-self.field-0 c.args.j (field_view c.in_ok-place.place) filled
    (sym c.in_ok-place.ensures)

pub returns : goal.returns
returns c =
    let l = c.self.inside in
    let filled : IsFilled l.text.now (Some c.in_ok-self.field-0) c.args.self.now =
    filled_now l.text.now l.count l.has_return l.kind l.ended c.in_ok-self.field-0 c.args.self.now c.self.invariant.0
    c.self.view_is c.in_ok-self.was in
    rw c.part.ensures (held_cell_found l.text.now c.args.self.now c.in_ok-self.field-0 c.args.j (field_view c.in_ok-place.place)
    filled c.in_ok-place.ensures)
