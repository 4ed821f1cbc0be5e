use Rattle.std.proofs.Common.{ℕ, List, ◌++◌, sym, ap, ◌∙◌, arith, take, take-suc, add-one, append-nil}
use Rattle.std.specs.List.{filter}
use Rattle.std.proofs.lemmas.List.{take_all}
use Rattle.cwr_shape.specs.declared.symbols.Symbol.{Symbol}
use Rattle.cwr_causes.specs.Steps.Coming.{ComesAt, comes}
use Rattle.cwr_causes.proofs.lemmas.ComingSymbols.{more_kept, on_err}
use Rattle.cwr_causes.proofs.next_symbols.ask_each.Goals as goal

pub loop-symbol-init : goal.loop-symbol-init
loop-symbol-init c = sym (append-nil c.args.found.now.items)

pub loop-symbol-preserved : goal.loop-symbol-preserved
loop-symbol-preserved c =
    let i = c.loop-symbol.symbol-index in
    more_kept (comes c.args.stage) c.args.found.now.items (take i c.args.symbols.now) _ _ _ _
    (ap (λ (k : ℕ). take k c.args.symbols.now) (add-one i) ∙ take-suc c.args.symbols.now i _ c.loop-symbol-test.true)
    c.loop-symbol.invariant c.in_ok-ask.ensures.ok

pub returns-clause-ok : goal.returns-clause-ok
returns-clause-ok c =
    c.loop-symbol.invariant
    ∙ ap (λ (xs : List Symbol). c.args.found.now.items ++ filter (comes c.args.stage) xs)
    (take_all c.loop-symbol.symbol-index c.args.symbols.now (omega (arith, c.loop-symbol-test.false)))

pub returns-in_err-ask-clause-err : goal.returns-in_err-ask-clause-err
returns-in_err-ask-clause-err c =
    let one : (symbol : Symbol) × ComesAt c.args.stage symbol = (_, c.in_err-ask.ensures.err) in
    on_err c.from_residual.result one
