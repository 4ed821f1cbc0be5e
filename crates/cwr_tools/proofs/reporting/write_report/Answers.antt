use Rattle.cwr_tools.proofs.lemmas.RightReports.{judged_text}
use Rattle.cwr_tools.proofs.lemmas.ToldTexts.{reports_text}
use Rattle.cwr_tools.proofs.reporting.write_report.Goals as goal

pub returns-clause-runs : goal.returns-clause-runs
returns-clause-runs g c = λ of s.
    let reported = c.write_lines-writer.ensures.reported of s in
    let told =
    reports_text of c.args.limits (g.R.Source.remaining c.args.reader.now) (g.R.Source.remaining c.write_lines-writer.new.reader)
    g.W.Target.contents c.args.writer c.write_lines-writer.result.0 c.write_lines-writer.result.1 reported in
    record {
      reported = reported;
      told = told;
      judged =
          judged_text of c.args.limits (g.R.Source.remaining c.args.reader.now) (g.R.Source.remaining c.write_lines-writer.new.reader)
          g.W.Target.contents c.args.writer c.write_lines-writer.result.0 c.write_lines-writer.result.1 told;
      reader_failures = c.write_lines-writer.ensures.reader_failures;
      writer_failures = c.write_lines-writer.ensures.writer_failures;
      all_handed_on = c.write_lines-writer.ensures.handed_on;
    }
