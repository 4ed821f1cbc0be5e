use Rattle.std.proofs.Common.{arith}
use Rattle.std.proofs.lemmas.Grind.{common_steps}
use Rattle.cwr_fields.proofs.lemmas.Spellings.{day_spelled}
use Rattle.cwr_fields.proofs.lemmas.DigitsWritten.{three_back}
use Rattle.cwr_fields.proofs.dates.CivilDateCell.read.Goals as goal

pub returns-in_err-year-clause-some : goal.returns-in_err-year-clause-some
returns-in_err-year-clause-some c = grind (arith, common_steps, day_spelled c.args.cell.now c.if-cell-ne8.false)

pub returns-clause-some : goal.returns-clause-some
returns-clause-some c = grind (arith, common_steps, day_spelled c.args.cell.now c.if-cell-ne8.false)

pub returns-clause-value : goal.returns-clause-value
returns-clause-value c = grind (arith, common_steps, three_back 4 c.args.cell.now c.if-cell-ne8.false)
