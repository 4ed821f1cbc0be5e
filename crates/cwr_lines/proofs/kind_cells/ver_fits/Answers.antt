use Rattle.cwr_fields.specs.declared.kinds.Kind.TheVariants.{Ver}
use Rattle.cwr_lines.proofs.lemmas.JudgedCells.{carries}
use Rattle.cwr_lines.proofs.kind_cells.ver_fits.Goals as goal

pub returns : goal.returns
returns c = λ yes.
    carries Ver c.args.line.now c.requires.whole c.requires.plain
    (tt, (tt, (tt, (tt, (tt, (tt, (tt, (tt, (tt, (tt, (tt, (tt, (tt, (tt, (tt, (tt, tt))))))))))))))))
