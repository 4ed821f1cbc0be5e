use Rattle.std.proofs.Common.{◌+◌, sym}
use Rattle.cwr_fields.specs.Steps.Views.{field_view}
use Rattle.cwr_lines.proofs.lemmas.CarriedCells.{carried_within}
use Rattle.cwr_lines.proofs.records.show_cells.Goals as goal

pub part-requires : goal.part-requires
part-requires g c =
    carried_within c.args.kind c.args.line.now (c.loop-before.before + 1) (field_view c.in-Some.place) c.requires
    (sym c.in-Some.ensures)
