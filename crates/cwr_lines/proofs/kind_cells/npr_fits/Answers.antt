use Rattle.cwr_fields.specs.declared.kinds.Kind.TheVariants.{Npr}
use Rattle.cwr_lines.proofs.lemmas.JudgedCells.{carries}
use Rattle.cwr_lines.proofs.kind_cells.npr_fits.Goals as goal

pub returns : goal.returns
returns c = λ yes.
    carries Npr c.args.line.now c.requires.whole c.requires.plain
    (tt, (tt, (tt, (tt, tt))))
