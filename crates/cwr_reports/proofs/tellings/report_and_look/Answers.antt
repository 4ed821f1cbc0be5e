use Rattle.cwr_tools.proofs.lemmas.WatchedRuns.{stands_accepted}
use Rattle.cwr_reports.proofs.lemmas.EndsOnTexts.{looks_told}
use Rattle.cwr_reports.proofs.tellings.report_and_look.Goals as goal

pub returns-clause-looks : goal.returns-clause-looks
returns-clause-looks g c =
    looks_told c.requires.0 c.args.limits (g.R.Source.remaining c.args.reader.now)
    (g.R.Source.remaining c.write_report-writer.new.reader) (g.R.Source.remaining c.look_after-look.new.reader)
    g.W.Target.contents c.args.writer c.write_report-writer.result.0 c.write_report-writer.result.1 c.look_after-look.result
    (c.write_report-writer.ensures.runs c.requires.0 c.requires.1).told c.look_after-look.ensures.looks

pub returns-clause-told : goal.returns-clause-told
returns-clause-told g c = λ of stands. (
  g.R.Source.remaining c.write_report-writer.new.reader,
  (c.write_report-writer.ensures.runs of stands).reported,
)

pub returns-clause-stands : goal.returns-clause-stands
returns-clause-stands g c = λ of stands.
    stands_accepted c.args.limits (g.R.Source.remaining c.args.reader.now)
    (g.R.Source.remaining c.write_report-writer.new.reader) (g.L.Report.stands c.write_report-writer.new.lines of)
    (g.L.Report.stands c.write_report-writer.new.lines of) c.write_report-writer.result.1 (λ given here. here)
    (c.write_report-writer.ensures.stands of stands)
