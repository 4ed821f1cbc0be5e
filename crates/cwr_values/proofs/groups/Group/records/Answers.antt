use Rattle.std.proofs.Common.{◌∙◌, ap, arith, length}
use Rattle.std.proofs.lemmas.List.Sums.{sum_by_more}
use Rattle.cwr_values.specs.Format.Values.{GroupValue}
use Rattle.cwr_values.proofs.lemmas.Grouping.{group_counted}
use Rattle.cwr_values.proofs.groups.Group.records.Goals as goal

pub loop-transaction-preserved : goal.loop-transaction-preserved
loop-transaction-preserved c =
    let more =
    sum_by_more length c.deref-transaction-items.result.now c.loop-transaction.transaction-index c.transaction-item.result
    (omega arith) in
    let item = ap length c.transaction-item.is in
    omega (arith, more, item, c.loop-transaction.invariant, c.saturating_add-records.ensures, c.len.ensures.len)

pub returns : goal.returns
returns c =
    group_counted c.args.self.now c.deref-transaction-items.result.now c.loop-transaction.transaction-index
    c.loop-transaction.records c.loop-transaction.invariant c.loop-transaction-test.false
    (c.deref-transaction-items.ensures.value ∙ ap (λ (g : GroupValue). g.transactions) c.self.view_is)
