use Rattle.std.proofs.lemmas.Bool.{and_parts}
use Rattle.cwr_fields.specs.declared.kinds.Kind.TheVariants.{Nwr}
use Rattle.cwr_lines.proofs.lemmas.JudgedCells.{carries}
use Rattle.cwr_lines.proofs.kind_cells.nwr_fits.Goals as goal

pub returns : goal.returns
returns c = λ yes.
    let b14 = and_parts _ _ yes in
    let b13 = and_parts _ _ b14.0 in
    let b12 = and_parts _ _ b13.0 in
    let b11 = and_parts _ _ b12.0 in
    let b10 = and_parts _ _ b11.0 in
    let b9 = and_parts _ _ b10.0 in
    let b8 = and_parts _ _ b9.0 in
    let b7 = and_parts _ _ b8.0 in
    let b6 = and_parts _ _ b7.0 in
    let b5 = and_parts _ _ b6.0 in
    let b4 = and_parts _ _ b5.0 in
    let b3 = and_parts _ _ b4.0 in
    let b2 = and_parts _ _ b3.0 in
    carries Nwr c.args.line.now c.requires.whole c.requires.plain
    (tt, (tt, (tt, (c.fits_at.ensures b2.0, (tt, (c.fits_at-2.ensures b2.1, (tt, (c.fits_at-3.ensures b3.1, (tt, (c.fits_at-4.ensures b4.1, (c.fits_at-5.ensures b5.1, (c.fits_at-6.ensures b6.1, (tt, (c.fits_at-7.ensures b7.1, (c.fits_at-8.ensures b8.1, (c.fits_at-9.ensures b9.1, (tt, (tt, (tt, (tt, (tt, (c.fits_at-10.ensures b10.1, (c.fits_at-11.ensures b11.1, (c.fits_at-12.ensures b12.1, (c.fits_at-13.ensures b13.1, (tt, (tt, (c.fits_at-14.ensures b14.1, tt))))))))))))))))))))))))))))
