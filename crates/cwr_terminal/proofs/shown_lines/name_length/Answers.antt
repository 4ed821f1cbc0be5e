use Rattle.std.proofs.Common.{◌≡◌, drop, sym, ap, ◌∙◌}
use Rattle.std.proofs.lemmas.List.{take_rest}
use Rattle.cwr_terminal.specs.Format.Shown.{begins_own}
use Rattle.cwr_terminal.proofs.lemmas.Broken.{name_ends, name_goes_on, name_none}
use Rattle.cwr_terminal.proofs.shown_lines.name_length.Goals as goal

pub returns-then-begins_own-clause-value : goal.returns-then-begins_own-clause-value
returns-then-begins_own-clause-value c =
    let here : c.begins_own.result ≡ begins_own (drop c.loop-i.i c.args.line.now) =
    c.begins_own.ensures.value ∙ ap begins_own (take_rest c.args.line.now c.loop-i.i) in
    sym (name_ends c.args.line.now c.loop-i.i c.loop-i-test.true (sym here ∙ c.if-begins_own.true)) ∙ c.loop-i.invariant

pub loop-i-preserved : goal.loop-i-preserved
loop-i-preserved c =
    let here : c.begins_own.result ≡ begins_own (drop c.loop-i.i c.args.line.now) =
    c.begins_own.ensures.value ∙ ap begins_own (take_rest c.args.line.now c.loop-i.i) in
    sym (name_goes_on c.args.line.now c.loop-i.i c.loop-i-test.true (sym here ∙ c.if-begins_own.false)) ∙ c.loop-i.invariant

pub returns-clause-value : goal.returns-clause-value
returns-clause-value c = sym (name_none c.args.line.now c.loop-i.i c.loop-i-test.false) ∙ c.loop-i.invariant
