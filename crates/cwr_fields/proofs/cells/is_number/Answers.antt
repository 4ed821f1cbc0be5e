use Rattle.std.proofs.Common.{arith}
use Rattle.std.proofs.lemmas.Grind.{common_steps}
use Rattle.cwr_fields.proofs.lemmas.Spellings.{number_spelled}
use Rattle.cwr_fields.proofs.cells.is_number.Goals as goal

pub returns-then-not-is_empty : goal.returns-then-not-is_empty
returns-then-not-is_empty c = grind (arith, common_steps, number_spelled c.args.cell.now)
