use Rattle.std.proofs.Common.{arith}
use Rattle.std.proofs.lemmas.Grind.{common_steps}
use Rattle.cwr_fields.proofs.lemmas.Spellings.{time_spelled}
use Rattle.cwr_fields.proofs.lemmas.DigitsWritten.{three_back}
use Rattle.cwr_fields.proofs.times.TimeOfDayCell.read.Goals as goal

pub returns-in_err-hour-clause-some : goal.returns-in_err-hour-clause-some
returns-in_err-hour-clause-some c = grind (arith, common_steps, time_spelled 24 c.args.cell.now (omega arith) c.if-cell-ne6.false)

pub returns-clause-some : goal.returns-clause-some
returns-clause-some c = grind (arith, common_steps, time_spelled 24 c.args.cell.now (omega arith) c.if-cell-ne6.false)

pub returns-clause-value : goal.returns-clause-value
returns-clause-value c = grind (arith, common_steps, three_back 2 c.args.cell.now c.if-cell-ne6.false)
