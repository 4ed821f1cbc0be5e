use Rattle.std.proofs.Common.{arith}
use Rattle.cwr_fields.proofs.lemmas.NextDigits.{tens_digit, ten_more}
use Rattle.cwr_fields.proofs.spelled.next_tens.Goals as goal

pub overflow_add-next : goal.overflow_add-next
overflow_add-next c = rw (tens_digit c.args.text c.args.number c.requires.spells) (omega arith)

pub returns : goal.returns
returns c = ten_more c.args.text c.args.number c.requires.spells c.requires.nine c.requires.before
