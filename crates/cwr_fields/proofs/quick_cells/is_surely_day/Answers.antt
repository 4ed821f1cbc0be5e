use Rattle.std.proofs.Common.{◌≡◌, ◌&&◌, true, arith}
use Rattle.std.proofs.lemmas.Bool.{and_parts}
use Rattle.cwr_fields.proofs.lemmas.QuickTexts.{early_day}
use Rattle.cwr_fields.proofs.quick_cells.is_surely_day.Goals as goal

pub returns : goal.returns
returns c = λ yes.
    let bytes = and_parts _ _ yes in
    let front : (((c.is_digit.result && c.is_digit-2.result) && c.is_digit-3.result) && c.is_digit-4.result) ≡ true = bytes.0 in
    let back : (((c.is_digit-5.result && c.is_digit-6.result) && c.is_digit-7.result) && c.is_digit-8.result) ≡ true = bytes.1 in
    early_day c.args.cell.now (omega (arith, c.in-len8.len_at_least, c.in-len8.len_below))
    (rw c.is_digit-4.ensures at (rw c.is_digit-3.ensures at (rw c.is_digit-2.ensures at (rw c.is_digit.ensures at front))))
    (rw c.is_digit-8.ensures at (rw c.is_digit-7.ensures at (rw c.is_digit-6.ensures at (rw c.is_digit-5.ensures at back))))
    c.if-a-lt49.false (c.names_month.ensures c.if-not-names_month.false)
    (c.names_early_day.ensures c.if-not-names_early_day.false)
