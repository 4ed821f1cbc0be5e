use Rattle.std.proofs.Common.{ℕ, List, [], ap, ◌∙◌, arith, take, take-suc, add-one}
use Rattle.std.specs.List.{filter}
use Rattle.std.proofs.lemmas.List.{take_all}
use Rattle.cwr_shape.specs.declared.symbols.Symbol.{Symbol}
use Rattle.cwr_causes.specs.Steps.Coming.{letting, lets_one}
use Rattle.cwr_causes.proofs.lemmas.ComingSymbols.{more_kept}
use Rattle.cwr_causes.proofs.next_symbols.letting.Goals as goal

pub loop-symbol-preserved : goal.loop-symbol-preserved
loop-symbol-preserved c =
    let i = c.loop-symbol.symbol-index in
    let all : List Symbol = c.ordered_symbols-symbol-items.result.now in
    more_kept (lets_one c.args.stages.now c.args.kind) [] (take i all) _ _ _ _
    (ap (λ (k : ℕ). take k all) (add-one i) ∙ take-suc all i _ c.loop-symbol-test.true)
    c.loop-symbol.invariant c.in_ok-ask_letting.ensures

pub returns : goal.returns
unfolding letting
returns c =
    c.loop-symbol.invariant
    ∙ ap (λ (xs : List Symbol). filter (lets_one c.args.stages.now c.args.kind) xs)
    (take_all c.loop-symbol.symbol-index c.ordered_symbols-symbol-items.result.now (omega (arith, c.loop-symbol-test.false))
    ∙ c.ordered_symbols-symbol-items.ensures)
