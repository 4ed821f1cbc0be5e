use Rattle.std.proofs.Common.{ℕ, List, [], ◌++◌, ap, ◌∙◌, arith, take, take-suc, add-one, append-nil}
use Rattle.std.specs.List.{flat_map}
use Rattle.std.proofs.lemmas.List.{take_all}
use Rattle.std.proofs.lemmas.Grind.{flat_map-append}
use Rattle.cwr_fields.specs.declared.kinds.Kind.{Kind}
use Rattle.cwr_shape.specs.declared.symbols.Symbol.{Symbol}
use Rattle.cwr_causes.specs.Steps.Coming.{comes, inner_symbols}
use Rattle.cwr_causes.proofs.lemmas.ComingSymbols.{all_asked, all_come, more_kept, on_err}
use Rattle.cwr_causes.proofs.next_symbols.coming.Goals as goal

pub loop-kind-preserved : goal.loop-kind-preserved
loop-kind-preserved c =
    let i = c.loop-kind.kind-index in
    let before : List Kind = take i c.all_kinds-kind-items.result.now in
    more_kept (comes c.args.stage) [] (flat_map inner_symbols before) _ _ _ _
    (ap (λ (k : ℕ). flat_map inner_symbols (take k c.all_kinds-kind-items.result.now)) (add-one i)
    ∙ ap (flat_map inner_symbols) (take-suc c.all_kinds-kind-items.result.now i _ c.loop-kind-test.true)
    ∙ flat_map-append inner_symbols before _ ∙ ap (λ (s : List Symbol). flat_map inner_symbols before ++ s) (append-nil _))
    c.loop-kind.invariant c.in_ok-ask_kind.ensures.ok

pub returns-clause-exact : goal.returns-clause-exact
returns-clause-exact c =
    all_asked c.args.stage _ _ _
    (take_all c.loop-kind.kind-index c.all_kinds-kind-items.result.now (omega (arith, c.loop-kind-test.false))
    ∙ c.all_kinds-kind-items.ensures)
    c.loop-kind.invariant c.in_ok-ask_each.ensures.ok

pub returns-clause-ok : goal.returns-clause-ok
returns-clause-ok c =
    all_come c.args.stage _
    (all_asked c.args.stage _ _ _
    (take_all c.loop-kind.kind-index c.all_kinds-kind-items.result.now (omega (arith, c.loop-kind-test.false))
    ∙ c.all_kinds-kind-items.ensures)
    c.loop-kind.invariant c.in_ok-ask_each.ensures.ok)

pub returns-in_err-ask_kind-clause-memory : goal.returns-in_err-ask_kind-clause-memory
returns-in_err-ask_kind-clause-memory c = on_err c.from_residual.result c.in_err-ask_kind.ensures.err

pub returns-in_err-ask_each-clause-memory : goal.returns-in_err-ask_each-clause-memory
returns-in_err-ask_each-clause-memory c = on_err c.from_residual-in_err-ask_each.result c.in_err-ask_each.ensures.err
