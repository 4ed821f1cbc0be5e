use Rattle.std.proofs.Common.{arith}
use Rattle.std.proofs.lemmas.Grind.{common_steps}
use Rattle.cwr_fields.proofs.lemmas.Spellings.{number_spelled}
use Rattle.cwr_fields.proofs.lemmas.DigitsWritten.{number_back}
use Rattle.cwr_fields.proofs.numbers.NumberCell.read.Goals as goal

pub returns-in_err-number_in-clause-some : goal.returns-in_err-number_in-clause-some
returns-in_err-number_in-clause-some g c = grind (arith, common_steps, number_spelled c.args.cell.now)

pub returns-clause-some : goal.returns-clause-some
returns-clause-some g c = grind (arith, common_steps, number_spelled c.args.cell.now)

pub returns-clause-value : goal.returns-clause-value
returns-clause-value g c = grind (arith, common_steps, number_back g.row.W c.args.cell.now c.if-cell.false)
