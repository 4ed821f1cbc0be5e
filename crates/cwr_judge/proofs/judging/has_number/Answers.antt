use Rattle.std.proofs.Common.{sym, ap, ◌∙◌, option_map, true≢false}
use Rattle.cwr_fields.specs.Steps.Views.{field_view}
use Rattle.cwr_judge.proofs.lemmas.NumberCells.{no_field_no_number, carried_field, none_belongs, no_cell_no_number, number_cell}
use Rattle.cwr_judge.proofs.lemmas.NumberCells.{other_cell}
use Rattle.cwr_judge.proofs.judging.has_number.Goals as goal

pub returns-in_default-clause-yes : goal.returns-in_default-clause-yes
returns-in_default-clause-yes c =
    λ xs st t. no_field_no_number xs c.args.line.now c.args.kind c.args.j
    (sym c.field.ensures ∙ ap (option_map field_view) c.in_default.is)

pub returns-then-not-place-clause-yes : goal.returns-then-not-place-clause-yes
returns-then-not-place-clause-yes c =
    λ xs st t. carried_field xs c.args.line.now c.args.kind c.args.j c.in-Some.place c.in-Some.ensures c.if-not-place.true

pub returns-in_default-expects-clause-no : goal.returns-in_default-expects-clause-no
returns-in_default-expects-clause-no c =
    λ xs st t. none_belongs xs c.args.line.now c.args.kind c.args.j c.in-Some.place c.in-Some.ensures c.if-not-place.false
    (c.in_default-expects.ensures xs st)

pub returns-in-Some-cell-clause-yes : goal.returns-in-Some-cell-clause-yes
returns-in-Some-cell-clause-yes c = λ xs st t.
    number_cell xs c.args.line.now c.args.kind c.args.j c.in-Some-expects.number c.in-Some.place c.in-Some-cell.cell.now
    c.requires c.in-Some.ensures c.in-Some-cell.ensures (c.in-Some-expects.ensures xs st) (c.spells.ensures.0 t)

pub returns-in-Some-cell-clause-no : goal.returns-in-Some-cell-clause-no
returns-in-Some-cell-clause-no c = λ xs st t.
    other_cell xs c.args.line.now c.args.kind c.args.j c.in-Some-expects.number c.in-Some.place c.in-Some-cell.cell.now c.requires
    c.in-Some.ensures c.if-not-place.false c.in-Some-cell.ensures (c.in-Some-expects.ensures xs st)
    (λ e. true≢false (sym (c.spells.ensures.1 e) ∙ t))

pub returns-in-None-clause-no : goal.returns-in-None-clause-no
returns-in-None-clause-no c =
    λ xs st t. no_cell_no_number xs c.args.line.now c.args.kind c.args.j c.in-Some.place c.in-Some.ensures c.if-not-place.false
    c.in-None.ensures
