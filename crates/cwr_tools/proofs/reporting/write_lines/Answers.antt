use Rattle.std.specs.Prelude.{Ok, Err}
use Rattle.cwr_tools.proofs.lemmas.ReportsWhole.{counts_kept, counts_put, reports_failed, reports_flushed, reports_stuck}
use Rattle.cwr_tools.proofs.reporting.write_lines.Goals as goal

pub returns-in-Err-clause-reported : goal.returns-in-Err-clause-reported
returns-in-Err-clause-reported g c = λ of s.
    reports_failed of c.args.limits _ _ g.W.Target.contents g.W.Target.failures c.in-Err.fault c.args.writer
    c.into_inner-writer.result c.new-sink.result c.put_report-put.new.sink c.new-sink.ensures.empty
    c.into_inner-writer.ensures (c.in-Err.ensures.puts of s)

pub returns-in-Ok-flush-clause-reported : goal.returns-in-Ok-flush-clause-reported
returns-in-Ok-flush-clause-reported g c = λ of s.
    reports_flushed of c.args.limits _ _ g.W.Target.contents g.W.Target.failures c.in-Ok.verdict c.args.writer
    c.into_inner-writer.result c.flush.new.self c.new-sink.result c.put_report-put.new.sink
    c.new-sink.ensures.empty c.into_inner-writer.ensures c.flush.ensures.bytes (c.in-Ok.ensures.puts of s)

pub returns-in-Err-flush-clause-reported : goal.returns-in-Err-flush-clause-reported
returns-in-Err-flush-clause-reported g c = λ of s.
    reports_stuck of c.args.limits _ _ g.W.Target.contents g.W.Target.failures c.in-Ok.verdict c.args.writer
    c.into_inner-writer.result c.flush.new.self c.new-sink.result c.put_report-put.new.sink c.written-written.result
    c.new-sink.ensures.empty c.into_inner-writer.ensures c.written-written.ensures c.flush.ensures.bytes
    (c.in-Ok.ensures.puts of s)

pub returns-in-Err-clause-counted : goal.returns-in-Err-clause-counted
returns-in-Err-clause-counted g c =
    counts_kept c.requires.0 c.args.limits (g.R.Source.remaining c.args.reader.now)
    (g.R.Source.remaining c.put_report-put.new.reader) g.W.Target.contents g.W.Target.failures (Err c.in-Err.fault) c.args.writer c.into_inner-writer.result
    c.new-sink.result c.put_report-put.new.sink c.written-written.result c.new-sink.ensures.empty c.into_inner-writer.ensures
    c.written-written.ensures (c.in-Err.ensures.puts c.requires.0 c.requires.1)

pub returns-in-Ok-flush-clause-counted : goal.returns-in-Ok-flush-clause-counted
returns-in-Ok-flush-clause-counted g c =
    counts_put c.requires.0 c.args.limits (g.R.Source.remaining c.args.reader.now)
    (g.R.Source.remaining c.put_report-put.new.reader) g.W.Target.contents g.W.Target.failures (Ok c.in-Ok.verdict) c.args.writer c.into_inner-writer.result
    c.flush.new.self c.new-sink.result c.put_report-put.new.sink c.written-written.result c.new-sink.ensures.empty
    c.into_inner-writer.ensures c.written-written.ensures c.flush.ensures.bytes
    (c.in-Ok.ensures.puts c.requires.0 c.requires.1)

pub returns-in-Err-flush-clause-counted : goal.returns-in-Err-flush-clause-counted
returns-in-Err-flush-clause-counted g c =
    counts_put c.requires.0 c.args.limits (g.R.Source.remaining c.args.reader.now)
    (g.R.Source.remaining c.put_report-put.new.reader) g.W.Target.contents g.W.Target.failures (Ok c.in-Ok.verdict) c.args.writer c.into_inner-writer.result
    c.flush.new.self c.new-sink.result c.put_report-put.new.sink c.written-written.result c.new-sink.ensures.empty
    c.into_inner-writer.ensures c.written-written.ensures c.flush.ensures.bytes
    (c.in-Ok.ensures.puts c.requires.0 c.requires.1)
