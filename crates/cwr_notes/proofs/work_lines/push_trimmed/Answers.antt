use Rattle.std.proofs.Common.{length, ap, arith}
use Rattle.cwr_notes.proofs.lemmas.LabelledCells.{length-trimmed-le}
use Rattle.cwr_notes.proofs.work_lines.push_trimmed.Goals as goal

pub push-requires : goal.push-requires
push-requires c = omega (arith, length-trimmed-le c.args.cell.now, ap length c.trimmed.ensures)

pub returns-clause-len : goal.returns-clause-len
returns-clause-len c = omega (arith, length-trimmed-le c.args.cell.now, ap length c.trimmed.ensures)
