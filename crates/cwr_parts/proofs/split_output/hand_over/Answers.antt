use Rattle.std.proofs.Common.{ℕ, map, subst}
use Rattle.std.specs.Prelude.{Result, Err}
use Rattle.cwr_values.specs.Format.Values.{symbol_of}
use Rattle.cwr_judge.specs.Format.Items.{records_in}
use Rattle.cwr_encode.specs.declared.encoders.EncodeFault.{EncodeFault}
use Rattle.cwr_encode.specs.Steps.Encoders.{encoder_limits}
use Rattle.cwr_encode.specs.Format.Finishing.{JudgesEnd}
use Rattle.cwr_encode.specs.Steps.Finishing.{FinishesWriting}
use Rattle.cwr_parts.specs.Steps.SplitOutputs.{told_by}
use Rattle.cwr_parts.proofs.lemmas.WritersCounted.{given_back, known_so}
use Rattle.cwr_parts.proofs.lemmas.OutputHandedOver.{handed_over, right_last}
use Rattle.cwr_parts.proofs.split_output.hand_over.Goals as goal

pub fault_of-requires : goal.fault_of-requires
fault_of-requires g c =
    let may = c.requires.may in
    right_last g.O.W.Target.contents c.args.output (Err c.in-Err.fault) may
    (subst
    (λ (r : Result ℕ EncodeFault). JudgesEnd (encoder_limits c.args.output.encoder) (map symbol_of (records_in may.items)) r)
    c.in-Err.is
    (c.finish-writer.ensures.judged c.requires.unfailed may.start (records_in may.items) may.encodes))

pub returns-in-Ok-done-clause-hands_over : goal.returns-in-Ok-done-clause-hands_over
returns-in-Ok-done-clause-hands_over g c =
    handed_over (told_by g.O.Outputs.texts g.O.Outputs.failures g.O.Outputs.given_up g.O.W.Target.contents g.O.W.Target.failures)
    c.args.output c.finish-writer.result.0 c.in-Ok.field-0 c.args.outputs.now c.done.new.self
    (subst (λ (r : Result ℕ EncodeFault). FinishesWriting g.O.W.Target.contents g.O.W.Target.failures c.args.output.encoder
    c.finish-writer.result.0 r) c.in-Ok.is (c.finish-writer.ensures.finishes c.requires.unfailed))
    c.in-Ok-done.ensures.failures.0 c.in-Ok-done.ensures.given_up c.in-Ok-done.ensures.added

pub returns-in-Ok-done-clause-written : goal.returns-in-Ok-done-clause-written
returns-in-Ok-done-clause-written g c = known_so (g.O.Outputs.texts c.args.outputs.now) (λ known e began. tt)

pub returns-in-Err-clause-written : goal.returns-in-Err-clause-written
returns-in-Err-clause-written g c =
    given_back g.O.W.Target.contents g.O.W.Target.failures c.args.output.encoder c.finish-writer.result.0 c.in-Err.fault
    c.fault_of.result (g.O.Outputs.texts c.args.outputs.now) (g.O.Outputs.had c.give_up.new.self)
    (subst (λ (r : Result ℕ EncodeFault). FinishesWriting g.O.W.Target.contents g.O.W.Target.failures c.args.output.encoder
    c.finish-writer.result.0 r) c.in-Err.is (c.finish-writer.ensures.finishes c.requires.unfailed))
    c.fault_of.ensures c.give_up.ensures.had
