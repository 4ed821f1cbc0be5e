use Rattle.std.proofs.Common.{◌≡◌, List, ◌++◌, OnOk, sym, subst}
use Rattle.std.specs.List.{filter}
use Rattle.cwr_fields.specs.declared.kinds.Kind.{Kind}
use Rattle.cwr_shape.specs.declared.symbols.Symbol.{Symbol}
use Rattle.cwr_shape.specs.declared.symbols.Symbol.TheVariants.{Plain}
use Rattle.cwr_causes.specs.Steps.Coming.{comes, inner_symbols}
use Rattle.cwr_causes.proofs.lemmas.ComingSymbols.{asks_none, one_symbol, some_comes}
use Rattle.cwr_causes.proofs.next_symbols.ask_kind.Goals as goal

pub returns-in-Grt-clause-ok : goal.returns-in-Grt-clause-ok
returns-in-Grt-clause-ok c = asks_none c.args.stage c.args.kind c.args.found.now.items c.in-Grt.is

pub returns-in-Grh-clause-ok : goal.returns-in-Grh-clause-ok
returns-in-Grh-clause-ok c =
    subst (λ (k : Kind). OnOk c.ask_each.result
    (c.ask_each.new.found.items ≡ c.args.found.now.items ++ filter (comes c.args.stage) (inner_symbols k)))
    (sym c.in-Grh.is) c.ask_each.ensures.ok

pub returns-in-Ipa-clause-ok : goal.returns-in-Ipa-clause-ok
returns-in-Ipa-clause-ok c =
    subst (λ (k : Kind). OnOk c.ask_each-in-Ipa.result
    (c.ask_each-in-Ipa.new.found.items ≡ c.args.found.now.items ++ filter (comes c.args.stage) (inner_symbols k)))
    (sym c.in-Ipa.is) c.ask_each-in-Ipa.ensures.ok

pub returns-in_default-clause-ok : goal.returns-in_default-clause-ok
returns-in_default-clause-ok c =
    subst (λ (s : List Symbol). OnOk c.ask.result (c.ask.new.found.items ≡ c.args.found.now.items ++ filter (comes c.args.stage) s))
    (sym (one_symbol c.args.kind c.in_default.not-Grh c.in_default.not-Ipa c.in_default.not-Grt c.in_default.not-Trl))
    c.ask.ensures.ok

pub returns-in_default-clause-err : goal.returns-in_default-clause-err
returns-in_default-clause-err c = some_comes c.args.stage (Plain c.args.kind) c.ask.result c.ask.ensures.err
