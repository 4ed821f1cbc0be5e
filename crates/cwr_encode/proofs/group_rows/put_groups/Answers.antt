use Rattle.std.proofs.Common.{◌∙◌, ◌+◌, arith}
use Rattle.cwr_encode.specs.Steps.GroupTexts.{text_of_group}
use Rattle.cwr_encode.proofs.lemmas.PutRows.{found_within}
use Rattle.cwr_encode.proofs.lemmas.Numbered.{step_more, steps_whole, steps_refused}
use Rattle.cwr_encode.proofs.group_rows.put_groups.Goals as goal

pub returns-in_err-put_group-clause-puts : goal.returns-in_err-put_group-clause-puts
returns-in_err-put_group-clause-puts g c =
    steps_refused g.W.Target.contents g.W.Target.failures text_of_group 1 c.loop-group.i _ c.args.transmission.now.groups
    c.in-Some.group.now c.args.sink.now c.loop-group.sink c.put_group.new.sink
    c.in_err-put_group.field-0.0 c.from_residual.result c.in-Some.ensures.value (omega arith) c.from_residual.ensures.0
    c.loop-group.invariant.counts c.loop-group.invariant.written c.in_err-put_group.ensures.puts

pub loop-group-smaller : goal.loop-group-smaller
loop-group-smaller g c =
    let h =
    found_within c.args.transmission.now.groups c.loop-group.i c.in-Some.group.now c.in-Some.ensures.value in omega (arith, h)

pub loop-group-preserved : goal.loop-group-preserved
loop-group-preserved g c = record {
  within =
      let h =
      found_within c.args.transmission.now.groups c.loop-group.i c.in-Some.group.now c.in-Some.ensures.value in omega (arith, h);
  unfailed = c.in_ok-put_group.ensures.puts.failed;
  counts = c.in_ok-put_group.ensures.puts.counts ∙ c.loop-group.invariant.counts;
  written =
      λ start before h. step_more g.W.Target.contents start before text_of_group 1 c.loop-group.i (c.loop-group.i + 1)
      c.args.transmission.now.groups c.in-Some.group.now c.put_group.new.sink
      c.in-Some.ensures.value (omega arith)
      (c.in_ok-put_group.ensures.puts.written start _ (c.loop-group.invariant.written start before h));
}

pub returns-clause-puts : goal.returns-clause-puts
returns-clause-puts g c = record {
  written =
      λ start before h. steps_whole g.W.Target.contents start before text_of_group 1 c.loop-group.i c.args.transmission.now.groups
      c.loop-group.sink c.in_default.ensures.value (c.loop-group.invariant.written start before h);
  failed = c.loop-group.invariant.unfailed;
  counts = c.loop-group.invariant.counts;
}
