use Rattle.std.proofs.Common.{arith, length}
use Rattle.cwr_values.proofs.lemmas.Grouping.{count_records}
use Rattle.cwr_encode.proofs.lemmas.PutRows.{found_within}
use Rattle.cwr_encode.proofs.lemmas.Totals.{sum_step, transactions_total, records_total}
use Rattle.cwr_encode.proofs.group_rows.totals.Goals as goal

pub loop-group-preserved : goal.loop-group-preserved
loop-group-preserved c = record {
  within =
      let h =
      found_within c.args.transmission.now.groups c.loop-group.i c.in-Some.group.now c.in-Some.ensures.value in omega (arith, h);
  transactions_counted =
      let more =
      sum_step (λ g. length g.transactions) c.args.transmission.now.groups c.loop-group.i c.in-Some.group.now
      c.in-Some.ensures.value in
      omega (arith, more, c.loop-group.invariant.transactions_counted, c.saturating_add-transactions.ensures, c.len.ensures.len);
  records_counted =
      let more =
      sum_step count_records c.args.transmission.now.groups c.loop-group.i c.in-Some.group.now c.in-Some.ensures.value in
      omega (arith, more, c.loop-group.invariant.records_counted, c.saturating_add-records.ensures, c.group_records.ensures);
}

pub returns-clause-transactions : goal.returns-clause-transactions
returns-clause-transactions c =
    transactions_total c.args.transmission.now c.loop-group.i c.loop-group.transactions
    c.loop-group.invariant.transactions_counted c.in_default.ensures.value c.requires.few.transactions

pub returns-clause-records : goal.returns-clause-records
returns-clause-records c =
    records_total c.args.transmission.now c.loop-group.i c.loop-group.records c.loop-group.invariant.records_counted
    c.in_default.ensures.value c.requires.few.records
