use Rattle.std.proofs.Common.{sym}
use Rattle.cwr_lines.specs.Steps.Carried.{record_in}
use Rattle.cwr_fields.specs.Steps.Views.{field_view}
use Rattle.cwr_lines.proofs.lemmas.CarriedCells.{carried_within}
use Rattle.cwr_lines.proofs.lemmas.CellParts.{plain_part}
use Rattle.cwr_lines.proofs.lemmas.FitCells.{wide_cell, fits_found, fault_found, fits_none}
use Rattle.cwr_lines.proofs.drafts.judge_cell.Goals as goal

pub part-requires : goal.part-requires
part-requires c =
    carried_within c.args.kind c.args.line.now c.args.j (field_view c.in-Some.place) c.requires.whole (sym c.in-Some.ensures)

pub fits_known-requires-clause-width : goal.fits_known-requires-clause-width
fits_known-requires-clause-width c =
    rw c.part.ensures
    (wide_cell c.args.kind c.args.line.now c.args.j (field_view c.in-Some.place) c.requires.whole (sym c.in-Some.ensures))

pub returns-in-Some-clause-ok : goal.returns-in-Some-clause-ok
returns-in-Some-clause-ok c =
    fits_found c.fits_known.result c.args.kind c.args.line.now c.args.j (field_view c.in-Some.place) (sym c.in-Some.ensures)
    (rw c.part.ensures at c.fits_known.ensures.ok)

pub returns-in-Some-clause-err : goal.returns-in-Some-clause-err
returns-in-Some-clause-err c =
    fault_found c.fits_known.result c.args.kind c.args.line.now c.args.j (field_view c.in-Some.place) (sym c.in-Some.ensures)
    (rw c.part.ensures at c.fits_known.ensures.err)

pub returns-in-None-clause-ok : goal.returns-in-None-clause-ok
returns-in-None-clause-ok c = fits_none (record_in c.args.kind c.args.line.now) c.args.j c.in-None.ensures

pub fits_known-requires-clause-plain : goal.fits_known-requires-clause-plain
fits_known-requires-clause-plain c =
    λ p. rw c.part.ensures (plain_part c.args.line.now (field_view c.in-Some.place) (c.requires.plain p))
