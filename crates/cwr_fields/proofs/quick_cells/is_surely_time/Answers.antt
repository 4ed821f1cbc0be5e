use Rattle.std.proofs.Common.{arith}
use Rattle.cwr_fields.proofs.lemmas.QuickTexts.{time_text}
use Rattle.cwr_fields.proofs.quick_cells.is_surely_time.Goals as goal

pub returns : goal.returns
returns c = λ yes.
    time_text c.args.bound c.args.cell.now c.requires (omega (arith, c.in-len6.len_at_least, c.in-len6.len_below))
    (rw c.is_digit-6.ensures at (rw c.is_digit-5.ensures at (rw c.is_digit-4.ensures at (rw c.is_digit-3.ensures at
    (rw c.is_digit-2.ensures at (rw c.is_digit.ensures at yes))))))
    (rw c.two_digits.ensures.value at c.if-two_digits-bound.false) c.if-c-gt53.false c.if-e-gt53.false
