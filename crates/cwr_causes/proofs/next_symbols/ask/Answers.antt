use Rattle.std.proofs.Common.{◌∙◌}
use Rattle.cwr_causes.specs.Steps.Coming.{ComesAt}
use Rattle.cwr_causes.proofs.lemmas.ComingSymbols.{on_err, one_comes, one_stays}
use Rattle.cwr_causes.proofs.next_symbols.ask.Goals as goal

pub returns-in_ok-push-clause-ok : goal.returns-in_ok-push-clause-ok
returns-in_ok-push-clause-ok c =
    c.in_ok-push.ensures.items
    ∙ one_comes c.args.stage c.args.found.now.items c.args.symbol c.may_come.result c.may_come.ensures.exact c.if-may_come.true

pub returns-else-may_come-clause-ok : goal.returns-else-may_come-clause-ok
returns-else-may_come-clause-ok c =
    one_stays c.args.stage c.args.found.now.items c.args.symbol c.may_come.result c.may_come.ensures.exact c.if-may_come.false

pub returns-in_err-push-clause-err : goal.returns-in_err-push-clause-err
returns-in_err-push-clause-err c =
    let comes : ComesAt c.args.stage c.args.symbol = λ xs at. (c.may_come.ensures.continues xs at).0 c.if-may_come.true in
    on_err c.from_residual.result comes
