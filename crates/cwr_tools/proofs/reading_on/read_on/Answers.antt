use Rattle.std.proofs.Common.{ap}
use Rattle.cwr_decode.specs.Steps.Machines.{again}
use Rattle.cwr_decode.proofs.lemmas.AnsweredAtOnce.{if_some}
use Rattle.cwr_tools.proofs.lemmas.ToldReports.{passing_for, told_alone}
use Rattle.cwr_tools.proofs.reading_on.read_on.Goals as goal

pub returns-then-not-passes-clause-told : goal.returns-then-not-passes-clause-told
returns-then-not-passes-clause-told g c = told_alone _ _ _ c.args.counts.now _ _ _ c.next_item_after.ensures.reads
    (if_some (again c.args.reading.now.decoder.state) _ _ (λ outcome h. (h.0, h.1, ap g.R.Source.remaining h.2))
    c.next_item_after.ensures.again)

pub returns-clause-told : goal.returns-clause-told
returns-clause-told g c = record {
  passed = c.next_item_passing-answer.result.0;
  reads = passing_for _ _ _ _ _ _ _ _ (λ t clean. (c.if-not-passes.false, clean)) c.next_item_passing-answer.ensures.reads;
  counted = c.pass.ensures;
}
