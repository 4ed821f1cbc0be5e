use Rattle.std.proofs.Common.{Some, None, sym, ap, ◌∙◌, option_map}
use Rattle.cwr_fields.specs.Steps.Views.{field_view}
use Rattle.cwr_judge.proofs.lemmas.NumberCells.{wide_as_type}
use Rattle.cwr_lint_lines.proofs.lemmas.FaultsOfCells.{found_in, no_field}
use Rattle.cwr_lint_lines.proofs.cells.cell_fault.Goals as goal

pub returns-in_default-field : goal.returns-in_default-field
returns-in_default-field c =
    no_field c.args.line.now c.in-Some.kind c.args.j None (sym c.in-Some.ensures)
    (sym c.field.ensures ∙ ap (option_map field_view) c.in_default-field.is)

pub fits-requires : goal.fits-requires
fits-requires c =
    wide_as_type c.args.line.now c.in-Some.kind c.args.j c.in-Some-field.place c.in-Some-cell.cell.now (sym c.in-Some.ensures)
    c.in-Some-field.ensures c.in-Some-cell.ensures

pub returns-in-Ok : goal.returns-in-Ok
returns-in-Ok c =
    found_in c.args.line.now c.in-Some.kind c.args.j c.in-Some-field.place c.in-Some-cell.cell.now None (sym c.in-Some.ensures)
    c.in-Some-field.ensures c.in-Some-cell.ensures c.in-Ok.ensures.ok

pub returns-in-Err : goal.returns-in-Err
returns-in-Err c =
    found_in c.args.line.now c.in-Some.kind c.args.j c.in-Some-field.place c.in-Some-cell.cell.now (Some c.in-Err.fault)
    (sym c.in-Some.ensures) c.in-Some-field.ensures c.in-Some-cell.ensures c.in-Err.ensures.err
