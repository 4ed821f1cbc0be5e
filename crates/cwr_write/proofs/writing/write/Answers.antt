use Rattle.std.proofs.Common.{◌∙◌, List, ℕ, Option, subst}
use Rattle.std.specs.Prelude.{Ok, Err}
use Rattle.cwr_shape.specs.Format.Ranges.{LimitValues}
use Rattle.cwr_write.specs.Format.Imports.{given_in}
use Rattle.cwr_write.proofs.lemmas.LeftWritten.{left_back, left_cut}
use Rattle.cwr_write.proofs.lemmas.RunsEnded.{RunEnds, takes_all, whole_fault, whole_finished}
use Rattle.cwr_write.proofs.lemmas.TakenItems.{trailer_left}
use Rattle.cwr_write.proofs.lemmas.TakenLines.{reads_none, written_whole}
use Rattle.cwr_write.proofs.writing.write.Goals as goal

pub returns-in-Ok-clause-written : goal.returns-in-Ok-clause-written
returns-in-Ok-clause-written g c =
    let taken = c.in-Ok.ensures.takes in
    written_whole c.args.encoding c.args.limits (g.R.Source.remaining c.args.reader.now) g.W.Target.contents g.W.Target.failures
    c.args.writer c.finish.result.0 taken.0 c.new-encoder.result c.take_lines.new.encoder c.finish.result.1
    c.new-encoder.ensures.represents taken.1 (c.in-Ok.ensures.limits ∙ c.new-encoder.ensures.limits) taken.4 taken.5
    c.finish.ensures.written

pub returns-in-Ok-clause-reads : goal.returns-in-Ok-clause-reads
returns-in-Ok-clause-reads g c = reads_none c.finish.result.1 _ _ c.finish.ensures.unread c.in-Ok.ensures.reads

pub returns-in-Ok-clause-ends : goal.returns-in-Ok-clause-ends
returns-in-Ok-clause-ends g c =
    let taken = c.in-Ok.ensures.takes in
    let left : Option (List ℕ) = g.R.Source.remaining c.args.reader.now in
    let over =
    c.finish.ensures.ended taken.6.start (given_in taken.0) taken.6.encodes
    (trailer_left g.W.Target.contents taken.0 c.take_lines.new.encoder taken.6 taken.4) in
    whole_finished c.args.encoding c.args.limits c.args.most c.in-Ok.lines left c.finish.result.1 (subst
    (λ (l : LimitValues). RunEnds c.args.encoding l c.args.most left (Ok c.in-Ok.lines)) c.new-encoder.ensures.limits
    c.in-Ok.ensures.ends) over

pub returns-in-Ok-clause-takes : goal.returns-in-Ok-clause-takes
returns-in-Ok-clause-takes g c =
    takes_all c.args.encoding c.args.limits c.args.most (g.R.Source.remaining c.args.reader.now) g.W.Target.contents c.args.writer
    c.finish.result.0 c.finish.result.1 (returns-in-Ok-clause-written g c) (returns-in-Ok-clause-ends g c)

pub returns-in-Err-clause-ends : goal.returns-in-Err-clause-ends
returns-in-Err-clause-ends g c =
    let left : Option (List ℕ) = g.R.Source.remaining c.args.reader.now in
    whole_fault c.args.encoding c.args.limits c.args.most left c.in-Err.fault (subst
    (λ (l : LimitValues). RunEnds c.args.encoding l c.args.most left (Err c.in-Err.fault)) c.new-encoder.ensures.limits
    c.in-Err.ensures.ends)

pub returns-in-Err-clause-takes : goal.returns-in-Err-clause-takes
returns-in-Err-clause-takes g c =
    takes_all c.args.encoding c.args.limits c.args.most (g.R.Source.remaining c.args.reader.now) g.W.Target.contents c.args.writer
    c.abandon.result (Err c.in-Err.fault) tt (returns-in-Err-clause-ends g c)

pub returns-in-Ok-clause-leaves : goal.returns-in-Ok-clause-leaves
returns-in-Ok-clause-leaves g c =
    let taken = c.in-Ok.ensures.takes in
    let over =
    c.finish.ensures.ended taken.6.start (given_in taken.0) taken.6.encodes
    (trailer_left g.W.Target.contents taken.0 c.take_lines.new.encoder taken.6 taken.4) in
    left_cut c.args.encoding c.args.limits c.in-Ok.lines (g.R.Source.remaining c.args.reader.now) g.W.Target.contents
    g.W.Target.failures c.args.writer c.finish.result.0 taken.0 c.new-encoder.result c.take_lines.new.encoder c.finish.result.1
    c.new-encoder.ensures.represents taken.1 taken.4 taken.5 taken.6
    (c.in-Ok.ensures.limits ∙ c.new-encoder.ensures.limits) over c.finish.ensures.cut

pub returns-in-Err-clause-leaves : goal.returns-in-Err-clause-leaves
returns-in-Err-clause-leaves g c =
    left_back c.args.encoding c.args.limits (g.R.Source.remaining c.args.reader.now) g.W.Target.contents c.args.writer
    c.abandon.result c.new-encoder.result c.take_lines.new.encoder c.in-Err.fault c.new-encoder.ensures.limits
    c.new-encoder.ensures.writer c.abandon.ensures c.in-Err.ensures.leaves
