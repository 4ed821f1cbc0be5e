use Rattle.std.proofs.Common.{arith}
use Rattle.cwr_fields.proofs.lemmas.NextDigits.{last_digit, one_more}
use Rattle.cwr_fields.proofs.spelled.next_digits.Goals as goal

pub overflow_add-next : goal.overflow_add-next
overflow_add-next c = rw (last_digit c.args.text c.args.number c.requires.spells) (omega arith)

pub returns : goal.returns
returns c = one_more c.args.text c.args.number c.requires.spells c.requires.last
