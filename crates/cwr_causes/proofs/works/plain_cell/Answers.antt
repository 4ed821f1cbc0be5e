use Rattle.std.proofs.Common.{sym, arith}
use Rattle.cwr_lines.proofs.lemmas.HeldLaws.{length-held_cell}
use Rattle.cwr_causes.proofs.works.plain_cell.Goals as goal

pub returns-in-Some-clause-short : goal.returns-in-Some-clause-short
returns-in-Some-clause-short c = λ kind f known at.
    omega (arith, length-held_cell c.args.line.now kind c.args.field f c.in-Some.cell.now known at (sym c.in-Some.ensures))
