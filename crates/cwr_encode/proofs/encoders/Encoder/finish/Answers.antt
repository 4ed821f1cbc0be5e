use Rattle.std.proofs.Common.{map, sym, subst}
use Rattle.std.specs.Prelude.{Err}
use Rattle.cwr_values.specs.Format.Values.{symbol_of}
use Rattle.cwr_encode.specs.Steps.Finishing.{FinishesWriting}
use Rattle.cwr_encode.proofs.lemmas.Ends.{finishes_flushed, finishes_refused, end_rejudged}
use Rattle.cwr_encode.proofs.encoders.Encoder.finish.Goals as goal

pub returns-in-Ok-clause-judged : goal.returns-in-Ok-clause-judged
returns-in-Ok-clause-judged g c = λ unfailed start records e.
    end_rejudged c.args.self.tally.limits (map symbol_of records) c.flushed.result.1 _ _
    (c.in-Ok.ensures.judged unfailed start records e) c.flushed.ensures.err

pub returns-in-Ok-clause-finishes : goal.returns-in-Ok-clause-finishes
returns-in-Ok-clause-finishes g c = λ unfailed.
    finishes_flushed g.W.Target.contents g.W.Target.failures c.args.self c.end.new.self c.flushed.result.0 c.flushed.result.1
    c.in-Ok.ensures.limits (c.in-Ok.ensures.adds unfailed) c.flushed.ensures.kept c.flushed.ensures.ok c.flushed.ensures.err

pub returns-in-Err-clause-finishes : goal.returns-in-Err-clause-finishes
returns-in-Err-clause-finishes g c = λ unfailed.
    subst (λ w. FinishesWriting g.W.Target.contents g.W.Target.failures c.args.self w (Err c.in-Err.fault))
    (sym c.into_inner.ensures)
    (finishes_refused g.W.Target.contents g.W.Target.failures c.args.self c.end.new.self c.in-Err.fault c.in-Err.ensures.limits
    (c.in-Err.ensures.adds unfailed))
