use Rattle.std.proofs.Common.{[]}
use Rattle.cwr_endings.proofs.lemmas.HandedOn.{puts_out}
use Rattle.cwr_reports.specs.Steps.Marked.{unwanted_verdict}
use Rattle.cwr_reports.proofs.tellings.put_unwanted.Goals as goal

pub returns-clause-puts : goal.returns-clause-puts
returns-clause-puts g c =
    let put = c.put_unwanted_verdict-put in
    puts_out g.W.Target.contents g.W.Target.failures (unwanted_verdict c.args.judgement.now.status c.args.judgement.now.verdict)
    put.result c.hand_on.result.1 c.args.lines c.hand_on.result.0 c.new-sink.result put.new.sink c.new-sink.ensures.writer
    put.ensures.failed (put.ensures.written (g.W.Target.contents c.args.lines) [] c.new-sink.ensures.empty)
    (put.ensures.failures_counted c.new-sink.ensures.unfailed) c.hand_on.ensures.kept c.hand_on.ensures.failures
