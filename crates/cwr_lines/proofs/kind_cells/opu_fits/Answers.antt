use Rattle.std.proofs.lemmas.Bool.{and_parts}
use Rattle.cwr_fields.specs.declared.kinds.Kind.TheVariants.{Opu}
use Rattle.cwr_lines.proofs.lemmas.JudgedCells.{carries}
use Rattle.cwr_lines.proofs.kind_cells.opu_fits.Goals as goal

pub returns : goal.returns
returns c = λ yes.
    let b8 = and_parts _ _ yes in
    let b7 = and_parts _ _ b8.0 in
    let b6 = and_parts _ _ b7.0 in
    let b5 = and_parts _ _ b6.0 in
    let b4 = and_parts _ _ b5.0 in
    let b3 = and_parts _ _ b4.0 in
    let b2 = and_parts _ _ b3.0 in
    carries Opu c.args.line.now c.requires.whole c.requires.plain
    (tt, (tt, (tt, (c.fits_at.ensures b2.0, (tt, (tt, (c.fits_at-2.ensures b2.1, (c.fits_at-3.ensures b3.1, (tt, (tt, (tt, (tt, (c.fits_at-4.ensures b4.1, (tt, (c.fits_at-5.ensures b5.1, (tt, (c.fits_at-6.ensures b6.1, (tt, (c.fits_at-7.ensures b7.1, (tt, (tt, (tt, (tt, (c.fits_at-8.ensures b8.1, (tt, tt)))))))))))))))))))))))))
