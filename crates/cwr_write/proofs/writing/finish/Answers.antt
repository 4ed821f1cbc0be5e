use Rattle.std.proofs.Common.{map, subst}
use Rattle.std.specs.Prelude.{Result}
use Rattle.cwr_values.specs.Format.Values.{symbol_of}
use Rattle.cwr_encode.specs.declared.encoders.EncodeFault.{EncodeFault}
use Rattle.cwr_encode.specs.Format.Encoders.{IsUnlimited}
use Rattle.cwr_encode.specs.Format.Finishing.{JudgesEnd}
use Rattle.cwr_encode.specs.Steps.Encoders.{encoder_limits}
use Rattle.cwr_encode.specs.Steps.Finishing.{FinishesWriting}
use Rattle.std.proofs.Common.{ℕ}
use Rattle.cwr_write.proofs.lemmas.TakenLines.{finish_counts, finish_cut, finish_ended, finish_unread}
use Rattle.cwr_write.proofs.writing.finish.Goals as goal

pub returns-in-Err-clause-ended : goal.returns-in-Err-clause-ended
returns-in-Err-clause-ended g c = λ start records e comes.
    finish_ended c.args.encoder.tally (map symbol_of records) c.args.lines c.in-Err.fault c.finish_fault.result e.counted comes
    (subst (λ (r : Result ℕ EncodeFault). JudgesEnd (encoder_limits c.args.encoder) (map symbol_of records) r) c.in-Err.is
    (c.finish-writer.ensures.judged c.requires start records e))
    (subst (λ (r : Result ℕ EncodeFault). IsUnlimited r) c.in-Err.is c.finish-writer.ensures.unlimited) c.finish_fault.ensures

pub returns-in-Err-clause-failures : goal.returns-in-Err-clause-failures
returns-in-Err-clause-failures g c =
    finish_counts g.W.Target.contents g.W.Target.failures c.args.encoder c.finish-writer.result.0 c.args.lines c.in-Err.fault
    c.finish_fault.result
    (subst (λ (r : Result ℕ EncodeFault). FinishesWriting g.W.Target.contents g.W.Target.failures c.args.encoder
    c.finish-writer.result.0 r) c.in-Err.is (c.finish-writer.ensures.finishes c.requires)) c.finish_fault.ensures

pub returns-in-Err-clause-cut : goal.returns-in-Err-clause-cut
returns-in-Err-clause-cut g c =
    finish_cut g.W.Target.contents g.W.Target.failures c.args.encoder c.finish-writer.result.0 c.args.lines c.in-Err.fault
    c.finish_fault.result
    (subst (λ (r : Result ℕ EncodeFault). FinishesWriting g.W.Target.contents g.W.Target.failures c.args.encoder
    c.finish-writer.result.0 r) c.in-Err.is (c.finish-writer.ensures.finishes c.requires)) c.finish_fault.ensures

pub returns-in-Err-clause-unread : goal.returns-in-Err-clause-unread
returns-in-Err-clause-unread g c = finish_unread c.args.lines c.in-Err.fault c.finish_fault.result c.finish_fault.ensures
