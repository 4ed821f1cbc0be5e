use Rattle.std.proofs.Common.{◌≡◌, ◌+◌, true, false, drop, get_or, sym, ap, ◌∙◌, arith}
use Rattle.std.proofs.lemmas.List.{take_rest}
use Rattle.cwr_terminal.specs.Format.Breaks.{column_of, may_break, word_columns}
use Rattle.cwr_terminal.proofs.lemmas.Broken.{word_breaks, word_ends, word_goes_on}
use Rattle.cwr_terminal.proofs.breaks.word_columns.Goals as goal

pub returns-then-may_break-clause-value : goal.returns-then-may_break-clause-value
returns-then-may_break-clause-value c =
    let here : may_break c.loop-i.before (drop c.loop-i.i c.args.text.now) ≡ true =
    ap (may_break c.loop-i.before) (sym (take_rest c.args.text.now c.loop-i.i)) ∙ sym c.may_break.ensures ∙ c.if-may_break.true in
    let none : word_columns c.loop-i.before (drop c.loop-i.i c.args.text.now) ≡ 0 =
    word_breaks c.loop-i.before c.args.text.now c.loop-i.i c.loop-i-test.true here in
    omega arith

pub loop-i-preserved : goal.loop-i-preserved
loop-i-preserved c =
    let here : may_break c.loop-i.before (drop c.loop-i.i c.args.text.now) ≡ false =
    ap (may_break c.loop-i.before) (sym (take_rest c.args.text.now c.loop-i.i)) ∙ sym c.may_break.ensures ∙ c.if-may_break.false in
    let more : word_columns c.loop-i.before (drop c.loop-i.i c.args.text.now)
    ≡ column_of (get_or c.args.text.now c.loop-i.i 0)
    + word_columns (get_or c.args.text.now c.loop-i.i 0) (drop (c.loop-i.i + 1) c.args.text.now) =
    word_goes_on c.loop-i.before c.args.text.now c.loop-i.i c.loop-i-test.true here in
    record { value = omega arith; most = omega arith }

pub returns-clause-value : goal.returns-clause-value
returns-clause-value c =
    let none : word_columns c.loop-i.before (drop c.loop-i.i c.args.text.now) ≡ 0 =
    word_ends c.loop-i.before c.args.text.now c.loop-i.i c.loop-i-test.false in
    omega arith
