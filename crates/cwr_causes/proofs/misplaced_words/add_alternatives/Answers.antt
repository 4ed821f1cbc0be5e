use Rattle.std.proofs.Common.{◌∙◌, arith}
use Rattle.cwr_causes.specs.Format.MisplacedTexts.{alternatives}
use Rattle.cwr_causes.proofs.lemmas.ListedSymbols.{alternatives_all, alternatives_on}
use Rattle.cwr_causes.proofs.misplaced_words.add_alternatives.Goals as goal

pub loop-symbol-preserved : goal.loop-symbol-preserved
loop-symbol-preserved c =
    alternatives_on c.loop-symbol.follows _ c.args.symbols.now c.loop-symbol.symbol-index _ _ c.loop-symbol-test.true
    c.in_ok-add_alternative.ensures
    ∙ c.loop-symbol.invariant

pub returns : goal.returns
unfolding alternatives
returns c =
    alternatives_all c.loop-symbol.follows c.args.symbols.now c.loop-symbol.symbol-index _ _
    (omega (arith, c.loop-symbol-test.false)) c.loop-symbol.invariant
