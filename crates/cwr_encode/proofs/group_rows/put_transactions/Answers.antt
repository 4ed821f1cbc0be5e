use Rattle.std.proofs.Common.{◌∙◌, arith}
use Rattle.cwr_encode.specs.Steps.Texts.{text_from}
use Rattle.cwr_encode.proofs.lemmas.PutRows.{found_within}
use Rattle.cwr_encode.proofs.lemmas.Numbered.{step_more, steps_whole, steps_refused}
use Rattle.cwr_encode.proofs.group_rows.put_transactions.Goals as goal

pub returns-in_err-put_transaction-clause-puts : goal.returns-in_err-put_transaction-clause-puts
returns-in_err-put_transaction-clause-puts g c =
    steps_refused g.W.Target.contents g.W.Target.failures (λ j t. text_from j 0 t) 0 c.loop-transaction.i c.loop-transaction.i
    c.args.group.now.transactions c.in-Some.transaction.now c.args.sink.now c.loop-transaction.sink c.put_transaction.new.sink
    c.in_err-put_transaction.field-0.0 c.from_residual.result c.in-Some.ensures.value (omega arith) c.from_residual.ensures.0
    c.loop-transaction.invariant.counts c.loop-transaction.invariant.written c.in_err-put_transaction.ensures.puts

pub loop-transaction-smaller : goal.loop-transaction-smaller
loop-transaction-smaller g c =
    let h =
    found_within c.args.group.now.transactions c.loop-transaction.i c.in-Some.transaction.now c.in-Some.ensures.value in
    omega (arith, h)

pub loop-transaction-preserved : goal.loop-transaction-preserved
loop-transaction-preserved g c = record {
  within =
      let h =
      found_within c.args.group.now.transactions c.loop-transaction.i c.in-Some.transaction.now c.in-Some.ensures.value in
      omega (arith, h);
  unfailed = c.in_ok-put_transaction.ensures.puts.failed;
  counts = c.in_ok-put_transaction.ensures.puts.counts ∙ c.loop-transaction.invariant.counts;
  written =
      λ start before h. step_more g.W.Target.contents start before (λ j t. text_from j 0 t) 0 c.loop-transaction.i
      c.loop-transaction.i c.args.group.now.transactions c.in-Some.transaction.now c.put_transaction.new.sink
      c.in-Some.ensures.value (omega arith)
      (c.in_ok-put_transaction.ensures.puts.written start _ (c.loop-transaction.invariant.written start before h));
}

pub returns-clause-puts : goal.returns-clause-puts
returns-clause-puts g c = record {
  written =
      λ start before h. steps_whole g.W.Target.contents start before (λ j t. text_from j 0 t) 0 c.loop-transaction.i
      c.args.group.now.transactions c.loop-transaction.sink c.in_default.ensures.value
      (c.loop-transaction.invariant.written start before h);
  failed = c.loop-transaction.invariant.unfailed;
  counts = c.loop-transaction.invariant.counts;
}
