use Rattle.std.proofs.Common.{◌∙◌, arith}
use Rattle.cwr_encode.proofs.lemmas.PutRows.{found_within, row_more, rows_refused, rows_whole}
use Rattle.cwr_encode.proofs.rows.put_lines.Goals as goal

pub returns-in_err-put_row-clause-puts : goal.returns-in_err-put_row-clause-puts
returns-in_err-put_row-clause-puts g c =
    rows_refused g.W.Target.contents g.W.Target.failures c.args.number c.loop-shown.i c.args.transaction.now c.in-Some.shown
    c.args.sink.now c.loop-shown.sink c.put_row.new.sink c.in_err-put_row.field-0.0 c.from_residual.result
    c.in-Some.ensures.value c.from_residual.ensures.0 c.loop-shown.invariant.counts c.loop-shown.invariant.written
    c.in_err-put_row.ensures.puts

pub loop-shown-smaller : goal.loop-shown-smaller
loop-shown-smaller g c =
    let h = found_within c.args.transaction.now c.loop-shown.i c.in-Some.shown c.in-Some.ensures.value in omega (arith, h)

pub loop-shown-preserved : goal.loop-shown-preserved
loop-shown-preserved g c = record {
  within = let h = found_within c.args.transaction.now c.loop-shown.i c.in-Some.shown c.in-Some.ensures.value in omega (arith, h);
  unfailed = c.in_ok-put_row.ensures.puts.failed;
  counts = c.in_ok-put_row.ensures.puts.counts ∙ c.loop-shown.invariant.counts;
  written =
      λ start before h. row_more g.W.Target.contents start before c.args.number c.loop-shown.i c.args.transaction.now
      c.in-Some.shown c.put_row.new.sink c.in-Some.ensures.value
      (c.in_ok-put_row.ensures.puts.written start _ (c.loop-shown.invariant.written start before h));
}

pub returns-clause-puts : goal.returns-clause-puts
returns-clause-puts g c = record {
  written =
      λ start before h. rows_whole g.W.Target.contents start before c.args.number c.loop-shown.i c.args.transaction.now
      c.loop-shown.sink c.in_default.ensures.value (c.loop-shown.invariant.written start before h);
  failed = c.loop-shown.invariant.unfailed;
  counts = c.loop-shown.invariant.counts;
}
