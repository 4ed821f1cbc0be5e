use Rattle.std.proofs.Common.{[]}
use Rattle.cwr_endings.proofs.lemmas.HandedOn.{puts_out}
use Rattle.cwr_summary_rows.specs.Format.Rows.{row_text}
use Rattle.cwr_summary_rows.specs.Format.Shown.{row_value}
use Rattle.cwr_summaries.proofs.summaries.write_row.Goals as goal

pub returns-clause-puts : goal.returns-clause-puts
returns-clause-puts g c =
    let put = c.put_row-put in
    puts_out g.W.Target.contents g.W.Target.failures (row_text c.args.form (row_value c.args.row.now)) put.result c.hand_on.result.1 c.args.lines
    c.hand_on.result.0 c.new-sink.result put.new.sink c.new-sink.ensures.writer put.ensures.failed
    (put.ensures.written (g.W.Target.contents c.args.lines) [] c.new-sink.ensures.empty)
    (put.ensures.failures_counted c.new-sink.ensures.unfailed) c.hand_on.ensures.kept c.hand_on.ensures.failures
