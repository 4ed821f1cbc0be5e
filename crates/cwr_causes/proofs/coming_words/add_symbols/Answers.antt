use Rattle.std.proofs.Common.{◌∙◌, arith}
use Rattle.cwr_causes.proofs.lemmas.SaidInParts.{on_ok}
use Rattle.cwr_causes.proofs.lemmas.ListedSymbols.{listed_all, listed_on}
use Rattle.cwr_causes.proofs.coming_words.add_symbols.Goals as goal

pub loop-symbol-preserved : goal.loop-symbol-preserved
loop-symbol-preserved c =
    listed_on c.args.carried c.loop-symbol.follows c.in_ok-follows.follows _ c.args.symbols.now c.loop-symbol.symbol-index _ _
    c.loop-symbol-test.true c.in_ok-follows.ensures.text c.in_ok-follows.ensures.follows
    ∙ c.loop-symbol.invariant

pub returns : goal.returns
returns c =
    on_ok c.add_line_end.result
    (λ h. listed_all c.args.carried c.loop-symbol.follows c.args.symbols.now c.loop-symbol.symbol-index _ _ _
    (omega (arith, c.loop-symbol-test.false)) c.loop-symbol.invariant h)
    c.add_line_end.ensures
