use Rattle.std.proofs.Common.{sym, ◌∙◌}
use Rattle.cwr_advice.proofs.lemmas.OwingWriters.{owing_other, owing_writer}
use Rattle.cwr_advice.proofs.owing.Owing.with.Goals as goal

pub returns-then-writes : goal.returns-then-writes
returns-then-writes c = λ asking giving t r h writers is asks gives. owing_writer asking giving t r c.args.self c.args.asks h asks

pub returns-else-writes : goal.returns-else-writes
returns-else-writes c =
    λ asking giving t r h writers is asks gives. owing_other asking giving t r c.args.self c.args.gives h writers
    (sym is ∙ c.if-writes.false) gives
