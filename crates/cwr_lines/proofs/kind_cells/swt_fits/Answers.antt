use Rattle.std.proofs.lemmas.Bool.{and_parts}
use Rattle.cwr_fields.specs.declared.kinds.Kind.TheVariants.{Swt}
use Rattle.cwr_lines.proofs.lemmas.JudgedCells.{carries}
use Rattle.cwr_lines.proofs.kind_cells.swt_fits.Goals as goal

pub returns : goal.returns
returns c = λ yes.
    let b7 = and_parts _ _ yes in
    let b6 = and_parts _ _ b7.0 in
    let b5 = and_parts _ _ b6.0 in
    let b4 = and_parts _ _ b5.0 in
    let b3 = and_parts _ _ b4.0 in
    let b2 = and_parts _ _ b3.0 in
    carries Swt c.args.line.now c.requires.whole c.requires.plain
    (tt, (tt, (tt, (tt, (c.fits_at.ensures b2.0, (c.fits_at-2.ensures b2.1, (c.fits_at-3.ensures b3.1, (c.fits_at-4.ensures b4.1, (c.fits_at-5.ensures b5.1, (c.fits_at-6.ensures b6.1, (c.fits_at-7.ensures b7.1, tt)))))))))))
