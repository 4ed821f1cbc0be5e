use Rattle.std.proofs.Common.{take, sym, subst, arith}
use Rattle.cwr_files.specs.declared.markings.LinePart.{LinePart}
use Rattle.cwr_files.specs.declared.markings.LinePart.TheVariants.{LeftOut}
use Rattle.cwr_files.specs.Steps.Markings.{StandsIn}
use Rattle.cwr_files.proofs.lemmas.Pieces.{stands}
use Rattle.cwr_files.proofs.markings.leave_out.Goals as goal

pub returns-in-Ok-clause-stands : goal.returns-in-Ok-clause-stands
returns-in-Ok-clause-stands g c =
    subst (λ (q : LinePart). StandsIn LeftOut (take c.first_line-count.result.0 c.args.text.now) q) (sym c.part_behind.ensures)
    (stands LeftOut c.args.text.now c.first_line-count.result.0 c.first_line-count.result.0 c.first_line-count.result.1
    c.first_line-count.ensures (omega arith))
