use Rattle.std.proofs.Common.{[], subst}
use Rattle.cwr_tools.specs.declared.verdicts.Verdict.TheVariants.{Truncated}
use Rattle.cwr_tools.specs.Format.Reports.{CountsWriterFault}
use Rattle.cwr_lint.proofs.lemmas.TextsTold.{ends_answer, ends_counted, ends_early, ends_reader, ends_writer, put_counts}
use Rattle.cwr_lint.proofs.linting.explain_end.Goals as goal

pub returns-clause-added : goal.returns-clause-added
returns-clause-added g c =
    let told = c.put_end_words-told.ensures in
    ends_early g.W.Target.contents c.args.writer c.finish.result.0 (Truncated c.args.records) _ told.0 c.put_end_words-told.new.sink
    c.put_end_words-told.result _ _ c.finish.result.1 c.finish.ensures.kept
    (told.1.written (g.W.Target.contents c.args.writer) [] c.new-sink.ensures.empty) told.2 c.finish.ensures.answer

pub returns-clause-counted : goal.returns-clause-counted
returns-clause-counted g c =
    let told = c.put_end_words-told.ensures in
    ends_counted (Truncated c.args.records) g.W.Target.contents c.args.writer c.finish.result.0 c.args.before told.0
    c.put_end_words-told.new.sink c.put_end_words-told.result _ _ c.finish.result.1 c.finish.ensures.kept
    (told.1.written (g.W.Target.contents c.args.writer) [] c.new-sink.ensures.empty) c.finish.ensures.answer

pub returns-clause-answered : goal.returns-clause-answered
returns-clause-answered g c =
    ends_answer (Truncated c.args.records) _ c.put_end_words-told.result c.finish.result.1 0 0 _ _ _
    (put_counts c.put_end_words-told.result 0 _ _ (c.put_end_words-told.ensures.1.counts c.new-sink.ensures.unfailed)) c.finish.ensures.answer

pub returns-clause-reader_failures : goal.returns-clause-reader_failures
returns-clause-reader_failures g c = λ failures.
    ends_reader (Truncated c.args.records) _ c.put_end_words-told.result c.finish.result.1 failures failures _ _ _
    (put_counts c.put_end_words-told.result failures _ _ (c.put_end_words-told.ensures.1.counts c.new-sink.ensures.unfailed)) c.finish.ensures.answer

pub returns-clause-writer_failures : goal.returns-clause-writer_failures
returns-clause-writer_failures g c =
    subst (λ (w : _). CountsWriterFault c.finish.result.1 (g.W.Target.failures w) (g.W.Target.failures c.finish.result.0))
    c.new-sink.ensures.writer
    (ends_writer (Truncated c.args.records) _ c.put_end_words-told.result c.finish.result.1 0 0 _ _ _
    (put_counts c.put_end_words-told.result 0 _ _ (c.put_end_words-told.ensures.1.counts c.new-sink.ensures.unfailed)) c.finish.ensures.answer)
