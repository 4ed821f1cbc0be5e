use Rattle.cwr_fields.specs.declared.kinds.Kind.TheVariants.{Orn}
use Rattle.cwr_lines.proofs.lemmas.JudgedCells.{carries}
use Rattle.cwr_lines.proofs.kind_cells.orn_fits.Goals as goal

pub returns : goal.returns
returns c = λ yes.
    carries Orn c.args.line.now c.requires.whole c.requires.plain
    (tt, (tt, (tt, (tt, (tt, (tt, (tt, (tt, (tt, (tt, (tt, (tt, (tt, (c.fits_at.ensures yes, (tt, (tt, tt))))))))))))))))
