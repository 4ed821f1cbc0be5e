use Rattle.std.proofs.Common.{[], subst, sym}
use Rattle.std.specs.Prelude.{OnOk}
use Rattle.std.specs.Io.KnownBytes.{Appends}
use Rattle.cwr_endings.proofs.lemmas.HandedOn.{puts_out}
use Rattle.cwr_summary_rows.specs.declared.forms.Form.{Form}
use Rattle.cwr_summary_rows.specs.Format.Rows.{heading}
use Rattle.cwr_summaries.specs.Format.Rows.{heading_in}
use Rattle.cwr_summaries.proofs.lemmas.Written.{told_out}
use Rattle.cwr_summaries.proofs.summaries.write_heading.Goals as goal

pub returns-in-Csv-clause-puts : goal.returns-in-Csv-clause-puts
returns-in-Csv-clause-puts g c =
    let put = c.put_heading-put in
    subst (λ (f : Form). OnOk c.hand_on.result.1 (Appends (g.W.Target.contents c.args.lines) (g.W.Target.contents c.hand_on.result.0)
    (heading_in f))) (sym c.in-Csv.is)
    (told_out g.W.Target.contents g.W.Target.failures heading c.hand_on.result.1 c.args.lines c.hand_on.result.0
    (puts_out g.W.Target.contents g.W.Target.failures heading put.result c.hand_on.result.1 c.args.lines c.hand_on.result.0 c.new-sink.result
    put.new.sink c.new-sink.ensures.writer put.ensures.failed (put.ensures.written (g.W.Target.contents c.args.lines) [] c.new-sink.ensures.empty)
    (put.ensures.failures_counted c.new-sink.ensures.unfailed) c.hand_on.ensures.kept c.hand_on.ensures.failures))
