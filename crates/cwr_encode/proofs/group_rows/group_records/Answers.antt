use Rattle.std.proofs.Common.{arith, length}
use Rattle.cwr_encode.proofs.lemmas.PutRows.{found_within}
use Rattle.cwr_encode.proofs.lemmas.Totals.{sum_step, group_total}
use Rattle.cwr_encode.proofs.group_rows.group_records.Goals as goal

pub loop-transaction-preserved : goal.loop-transaction-preserved
loop-transaction-preserved c = record {
  within =
      let h =
      found_within c.args.group.now.transactions c.loop-transaction.i c.in-Some.transaction.now c.in-Some.ensures.value in
      omega (arith, h);
  counted =
      let more =
      sum_step length c.args.group.now.transactions c.loop-transaction.i c.in-Some.transaction.now c.in-Some.ensures.value in
      omega (arith, more, c.loop-transaction.invariant.counted, c.saturating_add-records.ensures, c.len.ensures.len);
}

pub returns : goal.returns
returns c =
    group_total c.args.group.now c.loop-transaction.i c.loop-transaction.records c.loop-transaction.invariant.counted
    c.in_default.ensures.value c.requires.records
