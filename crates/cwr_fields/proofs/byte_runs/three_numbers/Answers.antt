use Rattle.std.proofs.Common.{arith}
use Rattle.std.proofs.lemmas.Grind.{common_steps}
use Rattle.cwr_fields.proofs.lemmas.DigitsWritten.{three_parts}
use Rattle.cwr_fields.proofs.byte_runs.three_numbers.Goals as goal

pub returns-in_err-number-clause-some : goal.returns-in_err-number-clause-some
returns-in_err-number-clause-some c = grind (arith, common_steps, three_parts c.args.first c.args.cell.now)

pub returns-in_err-second-clause-some : goal.returns-in_err-second-clause-some
returns-in_err-second-clause-some c = grind (arith, common_steps, three_parts c.args.first c.args.cell.now)

pub returns-in_err-third-clause-some : goal.returns-in_err-third-clause-some
returns-in_err-third-clause-some c = grind (arith, common_steps, three_parts c.args.first c.args.cell.now)

pub returns-clause-some : goal.returns-clause-some
returns-clause-some c = grind (arith, common_steps, three_parts c.args.first c.args.cell.now)
