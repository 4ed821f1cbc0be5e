use Rattle.cwr_fields.specs.declared.kinds.Kind.TheVariants.{Nwn}
use Rattle.cwr_lines.proofs.lemmas.JudgedCells.{carries}
use Rattle.cwr_lines.proofs.kind_cells.nwn_fits.Goals as goal

pub returns : goal.returns
returns c = λ yes.
    carries Nwn c.args.line.now c.requires.whole c.requires.plain
    (tt, (tt, (tt, (tt, tt))))
