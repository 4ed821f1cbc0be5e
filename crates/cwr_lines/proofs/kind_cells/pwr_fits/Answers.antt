use Rattle.cwr_fields.specs.declared.kinds.Kind.TheVariants.{Pwr}
use Rattle.cwr_lines.proofs.lemmas.JudgedCells.{carries}
use Rattle.cwr_lines.proofs.kind_cells.pwr_fits.Goals as goal

pub returns : goal.returns
returns c = λ yes.
    carries Pwr c.args.line.now c.requires.whole c.requires.plain
    (tt, (tt, (tt, (tt, (tt, (tt, (tt, (tt, tt))))))))
