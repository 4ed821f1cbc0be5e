use Rattle.std.proofs.lemmas.Bool.{and_parts}
use Rattle.cwr_fields.specs.declared.kinds.Kind.TheVariants.{Ter}
use Rattle.cwr_lines.proofs.lemmas.JudgedCells.{carries}
use Rattle.cwr_lines.proofs.kind_cells.ter_fits.Goals as goal

pub returns : goal.returns
returns c = λ yes.
    let b2 = and_parts _ _ yes in
    carries Ter c.args.line.now c.requires.whole c.requires.plain
    (tt, (tt, (tt, (c.fits_at.ensures b2.0, (c.fits_at-2.ensures b2.1, tt)))))
