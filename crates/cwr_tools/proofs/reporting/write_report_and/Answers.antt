use Rattle.std.proofs.Common.{◌∙◌}
use Rattle.cwr_tools.proofs.lemmas.LastSteps.{held_last, runs_off, runs_on}
use Rattle.cwr_tools.proofs.reporting.write_report_and.Goals as goal

pub returns-in-Ok : goal.returns-in-Ok
returns-in-Ok g c = λ of s.
    runs_on of (g.L.Report.stands c.write_lines-writer.new.lines of)
    (g.S.LastStep.says c.args.step.now c.go_on.new.self c.write_lines-writer.new.lines c.args.limits)
    (g.S.LastStep.holds c.args.step.now) c.args.limits g.R.Source.remaining g.R.Source.failures c.args.reader.now
    c.write_lines-writer.new.reader c.go_on.new.reader g.W.Target.contents g.W.Target.failures g.W.Target.handed_on c.args.writer
    c.write_lines-writer.result.0 c.go_on.result.0 c.write_lines-writer.result.2.last c.write_lines-writer.result.2.written
    c.write_lines-writer.result.1 c.go_on.result.1 c.in-Ok.verdict c.in-Ok.is (c.write_lines-writer.ensures.reported of s)
    (c.write_lines-writer.ensures.stands of s) c.write_lines-writer.ensures.reader_failures
    c.write_lines-writer.ensures.writer_failures c.write_lines-writer.ensures.counted
    (λ holds. held_last c.holds_last.result c.args.limits _ _ c.write_lines-writer.result.2.last c.write_lines-writer.result.1
    c.in-Ok.verdict c.write_lines-writer.ensures.last c.in-Ok.is (c.holds_last.ensures ∙ holds))
    c.go_on.ensures.says c.go_on.ensures.taken c.go_on.ensures.answered c.go_on.ensures.counted c.go_on.ensures.reader_failures
    c.go_on.ensures.writer_failures c.go_on.ensures.handed_on

pub returns-in-Err : goal.returns-in-Err
returns-in-Err g c = λ of s.
    runs_off of (g.L.Report.stands c.write_lines-writer.new.lines of)
    (g.S.LastStep.says c.args.step.now c.args.step.now c.write_lines-writer.new.lines c.args.limits)
    (g.S.LastStep.holds c.args.step.now) c.args.limits g.R.Source.remaining g.R.Source.failures c.args.reader.now
    c.write_lines-writer.new.reader g.W.Target.contents g.W.Target.failures g.W.Target.handed_on c.args.writer
    c.write_lines-writer.result.0 c.write_lines-writer.result.1 c.in-Err.fault c.in-Err.is
    (c.write_lines-writer.ensures.reported of s) (c.write_lines-writer.ensures.stands of s)
    c.write_lines-writer.ensures.reader_failures c.write_lines-writer.ensures.writer_failures
