use Rattle.std.proofs.Common.{◌∙◌}
use Rattle.cwr_causes.specs.Steps.Coming.{lets_one}
use Rattle.cwr_causes.proofs.lemmas.ComingSymbols.{one_kept, one_left}
use Rattle.cwr_causes.proofs.next_symbols.ask_letting.Goals as goal

pub returns-in_ok-push : goal.returns-in_ok-push
returns-in_ok-push c =
    c.in_ok-push.ensures.items
    ∙ one_kept (lets_one c.args.stages.now c.args.kind) c.args.found.now.items c.args.symbol c.lets_at.result c.lets_at.ensures
    c.if-lets_at.true

pub returns-else-lets_at : goal.returns-else-lets_at
returns-else-lets_at c =
    one_left (lets_one c.args.stages.now c.args.kind) c.args.found.now.items c.args.symbol c.lets_at.result c.lets_at.ensures
    c.if-lets_at.false
