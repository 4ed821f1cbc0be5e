use Rattle.std.proofs.Common.{◌<◌, length, arith}
use Rattle.cwr_lines.proofs.lemmas.BlankCells.{is_field_at}
use Rattle.cwr_lines.proofs.lemmas.CellsAtStarts.{derived_fits, carried_fits, carried_part_within, carried_part_wide, length-fields, plain_within}
use Rattle.cwr_lines.proofs.kind_cells.fits_at.Goals as goal

pub returns-then-place : goal.returns-then-place
returns-then-place c = λ yes.
    let there : c.args.i < length c.layout.result.now = omega (arith, c.requires.known, length-fields c.args.kind c.layout.result.now c.layout.ensures) in
    derived_fits c.args.kind c.args.line.now c.args.i _ (is_field_at c.args.kind c.layout.result.now c.args.i _ c.layout.ensures there) c.if-place.true

pub part-requires : goal.part-requires
part-requires c =
    let there : c.args.i < length c.layout.result.now = omega (arith, c.requires.known, length-fields c.args.kind c.layout.result.now c.layout.ensures) in
    carried_part_within c.args.kind c.args.line.now c.args.i _ (is_field_at c.args.kind c.layout.result.now c.args.i _ c.layout.ensures there) c.requires.whole

pub surely_fits-requires-clause-width : goal.surely_fits-requires-clause-width
surely_fits-requires-clause-width c =
    let there : c.args.i < length c.layout.result.now = omega (arith, c.requires.known, length-fields c.args.kind c.layout.result.now c.layout.ensures) in
    rw c.part.ensures (carried_part_wide c.args.kind c.args.line.now c.args.i _ (is_field_at c.args.kind c.layout.result.now c.args.i _ c.layout.ensures there) c.if-place.false c.requires.whole)

pub surely_fits-requires-clause-plain : goal.surely_fits-requires-clause-plain
surely_fits-requires-clause-plain c = rw c.part.ensures (plain_within _ _ c.args.line.now c.requires.plain)

pub returns : goal.returns
returns c = λ yes.
    let there : c.args.i < length c.layout.result.now = omega (arith, c.requires.known, length-fields c.args.kind c.layout.result.now c.layout.ensures) in
    carried_fits c.args.kind c.args.line.now c.args.i _ (is_field_at c.args.kind c.layout.result.now c.args.i _ c.layout.ensures there) c.if-place.false (rw c.part.ensures at (c.surely_fits.ensures yes))
