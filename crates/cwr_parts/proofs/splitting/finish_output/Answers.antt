use Rattle.std.proofs.Common.{sym}
use Rattle.std.specs.Prelude.{Err, Ok}
use Rattle.cwr_parts.specs.Steps.SplitOutputs.{told_by}
use Rattle.cwr_parts.proofs.lemmas.OutputSteps.{finished, may_hand_over}
use Rattle.cwr_parts.proofs.lemmas.WritersCounted.{known_is, open_failed, open_handed_over}
use Rattle.cwr_parts.proofs.splitting.finish_output.Goals as goal

pub hand_over-requires-clause-may : goal.hand_over-requires-clause-may
hand_over-requires-clause-may g c =
    may_hand_over
    (told_by g.O.Outputs.texts g.O.Outputs.failures g.O.Outputs.given_up g.O.W.Target.contents g.O.W.Target.failures)
    c.args.splitting.now c.end_group.new.self c.args.outputs.now c.in-Some.output c.requires.may
    c.in_ok-end_group.ensures.ends.1 (sym c.in-Some.ensures.value)

pub returns-in_ok-hand_over-in-Some-clause-finishes : goal.returns-in_ok-hand_over-in-Some-clause-finishes
returns-in_ok-hand_over-in-Some-clause-finishes g c =
    finished (told_by g.O.Outputs.texts g.O.Outputs.failures g.O.Outputs.given_up g.O.W.Target.contents g.O.W.Target.failures)
    c.args.splitting.now c.end_group.new.self c.args.outputs.now c.hand_over.new.outputs c.in-Some.output c.take.new.self
    c.in_ok-end_group.ensures.ends.0 c.in_ok-end_group.ensures.ends.1 (sym c.in-Some.ensures.value) c.take.ensures.after
    c.in_ok-hand_over-in-Some.ensures.hands_over

pub returns-in_ok-hand_over-in-Some-clause-written : goal.returns-in_ok-hand_over-in-Some-clause-written
returns-in_ok-hand_over-in-Some-clause-written g c = λ known e.
    open_handed_over g.O.W.Target.contents tt (Ok tt) c.args.splitting.now.output c.end_group.new.self.output c.take.new.self
    c.in-Some.output (g.O.Outputs.had c.args.outputs.now) (g.O.Outputs.had c.hand_over.new.outputs)
    (c.in_ok-end_group.ensures.written (g.O.Outputs.had c.args.outputs.now)) (sym c.in-Some.ensures.value) c.take.ensures.after
    (known_is (g.O.Outputs.texts c.args.outputs.now) known e c.in_ok-hand_over-in-Some.ensures.written)

pub returns-in_err-end_group-clause-written : goal.returns-in_err-end_group-clause-written
returns-in_err-end_group-clause-written g c = λ known e.
    let had = g.O.Outputs.had c.args.outputs.now in
    open_failed g.O.W.Target.contents c.args.splitting.now.output c.end_group.new.self.output had c.in_err-end_group.field-0.0
    c.from_residual.result c.from_residual.ensures.1 (c.in_err-end_group.ensures.written had)

pub returns-in_err-hand_over-in-Some-clause-written : goal.returns-in_err-hand_over-in-Some-clause-written
returns-in_err-hand_over-in-Some-clause-written g c = λ known e.
    let fault = c.in_err-hand_over-in-Some.field-0.0 in
    let later = g.O.Outputs.had c.hand_over.new.outputs in
    open_failed g.O.W.Target.contents c.args.splitting.now.output c.take.new.self later fault
    c.from_residual-in_err-hand_over-in-Some.result c.from_residual-in_err-hand_over-in-Some.ensures.1
    (open_handed_over g.O.W.Target.contents tt (Err fault) c.args.splitting.now.output c.end_group.new.self.output c.take.new.self
    c.in-Some.output (g.O.Outputs.had c.args.outputs.now) later
    (c.in_ok-end_group.ensures.written (g.O.Outputs.had c.args.outputs.now)) (sym c.in-Some.ensures.value) c.take.ensures.after
    (known_is (g.O.Outputs.texts c.args.outputs.now) known e c.in_err-hand_over-in-Some.ensures.written))
