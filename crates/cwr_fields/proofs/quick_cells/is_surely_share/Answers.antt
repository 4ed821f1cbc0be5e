use Rattle.std.proofs.Common.{inr, lit≤, ◌∙◌}
use Rattle.cwr_fields.proofs.lemmas.QuickTexts.{small_cell, first_and_rest, whole_digits}
use Rattle.cwr_fields.proofs.quick_cells.is_surely_share.Goals as goal

pub returns-in-48 : goal.returns-in-48
returns-in-48 c = λ yes.
    small_cell c.args.cell.now c.in-len1-up.len_at_least c.in-48.is (c.are_four_digits.ensures yes).0 (c.are_four_digits.ensures yes).1

pub returns-in-49 : goal.returns-in-49
returns-in-49 c = λ yes.
    let same = first_and_rest c.args.cell.now _ 49 c.in-len1-up.len_at_least c.in-49.is (c.are_four-in-49.ensures yes) in
    inr (10000, lit≤ tt, same ∙ whole_digits)
