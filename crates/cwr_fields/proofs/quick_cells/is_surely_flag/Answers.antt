use Rattle.std.proofs.Common.{arith}
use Rattle.cwr_fields.proofs.lemmas.QuickTexts.{flag_text}
use Rattle.cwr_fields.proofs.quick_cells.is_surely_flag.Goals as goal

pub returns : goal.returns
returns c = λ yes. flag_text c.args.cell.now (omega (arith, c.in-len1.len_at_least, c.in-len1.len_below)) yes
