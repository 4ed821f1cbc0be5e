use Rattle.cwr_parts.specs.Steps.SplitOutputs.{told_by}
use Rattle.cwr_parts.proofs.lemmas.OutputSteps.{already_open, newly_open, none_there, one_there}
use Rattle.cwr_parts.proofs.lemmas.WritersCounted.{began_open}
use Rattle.cwr_parts.proofs.splitting.open_output.Goals as goal

pub returns-then-is_some-clause-opens : goal.returns-then-is_some-clause-opens
returns-then-is_some-clause-opens g c =
    let there = one_there c.args.splitting.now.output c.if-is_some.ensures in
    already_open (told_by g.O.Outputs.texts g.O.Outputs.failures g.O.Outputs.given_up g.O.W.Target.contents g.O.W.Target.failures)
    c.args.splitting.now c.args.outputs.now there.0 there.1

pub returns-in-Ok-clause-opens : goal.returns-in-Ok-clause-opens
returns-in-Ok-clause-opens g c =
    newly_open (told_by g.O.Outputs.texts g.O.Outputs.failures g.O.Outputs.given_up g.O.W.Target.contents g.O.W.Target.failures)
    c.args.splitting.now c.args.outputs.now c.next.new.self c.in-Ok.writer c.new.result
    (none_there c.args.splitting.now.output c.if-is_some.ensures) c.in-Ok.ensures.empty c.in-Ok.ensures.unfailed
    (record { texts = c.in-Ok.ensures.kept; failures = c.in-Ok.ensures.failures.0; given_up = c.in-Ok.ensures.given_up })
    c.new.ensures.encodes c.new.ensures.limits c.new.ensures.unfailed c.new.ensures.writer c.new.ensures.none
    c.new.ensures.outside

pub returns-in-Ok-clause-written : goal.returns-in-Ok-clause-written
returns-in-Ok-clause-written g c = λ known e began. (
  began_open g.O.W.Target.contents c.in-Ok.writer c.new.result (g.O.Outputs.texts c.args.outputs.now) known e
      c.in-Ok.ensures.empty c.new.ensures.encodes,
  tt,
)
