use Rattle.std.proofs.Common.{sym, ◌∙◌}
use Rattle.cwr_advice.proofs.lemmas.CalmRecords.{begun_by, begun_still, some_is}
use Rattle.cwr_advice.proofs.kept.chain_with.Goals as goal

pub returns-then-not-is_publisher : goal.returns-then-not-is_publisher
returns-then-not-is_publisher c = λ rs h. begun_still rs c.args.shown.now c.args.chain h

pub returns : goal.returns
returns c = λ rs h.
    begun_by rs c.args.shown.now c.cell.result.now c.chain_in.result (sym c.is_publisher.ensures ∙ c.if-not-is_publisher.false)
    c.cell.ensures.fits c.cell.ensures.value (some_is c.chain_in.result c.cell.result.now c.chain_in.ensures)
