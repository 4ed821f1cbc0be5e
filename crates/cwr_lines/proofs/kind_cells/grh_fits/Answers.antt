use Rattle.std.proofs.lemmas.Bool.{and_parts}
use Rattle.cwr_fields.specs.declared.kinds.Kind.TheVariants.{Grh}
use Rattle.cwr_lines.proofs.lemmas.JudgedCells.{carries}
use Rattle.cwr_lines.proofs.kind_cells.grh_fits.Goals as goal

pub returns : goal.returns
returns c = λ yes.
    let b3 = and_parts _ _ yes in
    let b2 = and_parts _ _ b3.0 in
    carries Grh c.args.line.now c.requires.whole c.requires.plain
    (tt, (c.fits_at.ensures b2.0, (tt, (c.fits_at-2.ensures b2.1, (c.fits_at-3.ensures b3.1, (tt, tt))))))
