use Rattle.std.proofs.Common.{ap, subst, sym}
use Rattle.std.specs.Prelude.{None, OnOk}
use Rattle.std.specs.Option.{is_some}
use Rattle.cwr_lint.specs.Format.Wanted.{lines_linted, wanting}
use Rattle.cwr_tools.specs.Format.Reports.{lines_of_counted, lines_of_data, lines_of_findings}
use Rattle.cwr_tools.specs.declared.finding_counts.FindingCount.{FindingCount}
use Rattle.cwr_tools.specs.Format.Watching.{AreFindingsIn, CountsAccepted}
use Rattle.cwr_tools.proofs.lemmas.RightReports.{judged_text}
use Rattle.cwr_acks.specs.Format.AckLines.{lines_of_acks}
use Rattle.cwr_advise.specs.Format.AdviceLevels.{IsWorstTold}
use Rattle.cwr_advise.specs.Format.AdviceLines.{lines_of_advice}
use Rattle.cwr_tables.specs.Format.TableLines.{lines_of_table}
use Rattle.cwr_endings.specs.declared.endings.Look.{Look}
use Rattle.cwr_reports.specs.Steps.Looks.{LooksAfter, tells_findings}
use Rattle.cwr_reports.specs.Format.Endings.{advice_in}
use Rattle.cwr_reports.specs.Steps.Tellings.{CountsReading, telling_alone}
use Rattle.cwr_reports.proofs.lemmas.EndsOnTexts.{counts_explained, counts_reading, looks_after, looks_found, looks_told, sees_advice, sees_found, sees_nothing}
use Rattle.cwr_reports.proofs.lemmas.EndsOnTexts.{counted_told, stands_so, told_as, told_by, uncounted}
use Rattle.cwr_reports.proofs.tellings.tell.Goals as goal

-- ---- what is told

pub returns-in-Findings-clause-told : goal.returns-in-Findings-clause-told
returns-in-Findings-clause-told g c =
    told_by c.args.telling _ c.args.limits (g.R.Source.remaining c.args.reader.now) g.W.Target.contents c.args.writer
    c.report_and_look-writer.result.0 c.report_and_look-writer.result.1 c.in-Findings.is
    (c.report_and_look-writer.ensures.told lines_of_findings c.new-findings.ensures.stands)

pub returns-in-Records-clause-told : goal.returns-in-Records-clause-told
returns-in-Records-clause-told g c =
    told_by c.args.telling _ c.args.limits (g.R.Source.remaining c.args.reader.now) g.W.Target.contents c.args.writer
    c.report_and_look-writer-in-Records.result.0 c.report_and_look-writer-in-Records.result.1 c.in-Records.is
    (c.report_and_look-writer-in-Records.ensures.told lines_of_counted c.new-records.ensures.stands)

pub returns-in-Data-clause-told : goal.returns-in-Data-clause-told
returns-in-Data-clause-told g c =
    told_by c.args.telling _ c.args.limits (g.R.Source.remaining c.args.reader.now) g.W.Target.contents c.args.writer
    c.report_and_look-writer-in-Data.result.0 c.report_and_look-writer-in-Data.result.1 c.in-Data.is
    (c.report_and_look-writer-in-Data.ensures.told (lines_of_data c.in-Data.encoding c.in-Data.numbers) c.new-data.ensures.stands)

pub returns-in-Rows-clause-told : goal.returns-in-Rows-clause-told
returns-in-Rows-clause-told g c =
    told_by c.args.telling _ c.args.limits (g.R.Source.remaining c.args.reader.now) g.W.Target.contents c.args.writer
    c.report_and_look-writer-in-Rows.result.0 c.report_and_look-writer-in-Rows.result.1 c.in-Rows.is
    (c.report_and_look-writer-in-Rows.ensures.told (lines_of_table c.in-Rows.encoding c.in-Rows.table) c.new-rows.ensures.stands)

pub returns-in-Advice-clause-told : goal.returns-in-Advice-clause-told
returns-in-Advice-clause-told g c =
    told_by c.args.telling _ c.args.limits (g.R.Source.remaining c.args.reader.now) g.W.Target.contents c.args.writer
    c.report_and_look-writer-in-Advice.result.0 c.report_and_look-writer-in-Advice.result.1 c.in-Advice.is
    (c.report_and_look-writer-in-Advice.ensures.told (lines_of_advice c.in-Advice.all c.in-Advice.repeated) c.new-advice.ensures.stands)

pub returns-in-Explained-clause-told : goal.returns-in-Explained-clause-told
returns-in-Explained-clause-told g c =
    told_as c.args.telling _ c.args.limits (g.R.Source.remaining c.args.reader.now)
    (g.R.Source.remaining c.explain-writer.new.reader) g.W.Target.contents c.args.writer c.explain-writer.result.0
    c.explain-writer.result.1 c.in-Explained.is c.explain-writer.ensures.explains

pub returns-in-Faults-clause-told : goal.returns-in-Faults-clause-told
returns-in-Faults-clause-told g c =
    told_as c.args.telling _ c.args.limits (g.R.Source.remaining c.args.reader.now)
    (g.R.Source.remaining c.lint-writer.new.reader) g.W.Target.contents c.args.writer c.lint-writer.result.0
    c.lint-writer.result.1 c.in-Faults.is (c.lint-writer.ensures.lints, c.lint-writer.ensures.tells)

pub returns-in-Answers-clause-told : goal.returns-in-Answers-clause-told
returns-in-Answers-clause-told g c =
    told_as c.args.telling _ c.args.limits (g.R.Source.remaining c.args.reader.now)
    (g.R.Source.remaining c.acks_alone-writer.new.reader) g.W.Target.contents c.args.writer c.acks_alone-writer.result.0
    c.acks_alone-writer.result.1 c.in-Answers.is c.acks_alone-writer.ensures.reported

-- ---- what is looked at, and how failures count

pub returns-in-Explained-clause-looks : goal.returns-in-Explained-clause-looks
returns-in-Explained-clause-looks g c =
    subst (λ (l : Look). OnOk c.explain-writer.result.1 (LooksAfter c.args.limits (g.R.Source.remaining c.args.reader.now) l))
    (sym c.look_of.ensures)
    (looks_found c.args.limits (g.R.Source.remaining c.args.reader.now) (g.R.Source.remaining c.explain-writer.new.reader)
    c.explain-writer.result.1 c.explain-writer.result.2 c.explain-writer.ensures.found)

pub returns-in-Faults-clause-looks : goal.returns-in-Faults-clause-looks
returns-in-Faults-clause-looks g c =
    looks_after (lines_linted (wanting (is_some c.in-Faults.name) c.in-Faults.advised c.in-Faults.all)) c.args.limits
    (g.R.Source.remaining c.args.reader.now) (g.R.Source.remaining c.lint-writer.new.reader)
    (g.R.Source.remaining c.look_after-look.new.reader) g.W.Target.contents
    c.args.writer c.lint-writer.result.0 c.lint-writer.result.1 c.look_after-look.result c.lint-writer.ensures.accepted
    c.look_after-look.ensures.looks

pub returns-in-Explained-clause-reader_failures : goal.returns-in-Explained-clause-reader_failures
returns-in-Explained-clause-reader_failures g c =
    subst (λ (l : Look). CountsReading c.explain-writer.result.1 l (g.R.Source.failures c.args.reader.now)
    (g.R.Source.failures c.explain-writer.new.reader)) (sym c.look_of.ensures)
    (counts_explained c.explain-writer.result.1 c.explain-writer.result.2 (g.R.Source.failures c.args.reader.now)
    (g.R.Source.failures c.explain-writer.new.reader) c.explain-writer.ensures.reader_failures)

pub returns-in-Faults-clause-reader_failures : goal.returns-in-Faults-clause-reader_failures
returns-in-Faults-clause-reader_failures g c =
    counts_reading c.lint-writer.result.1 c.look_after-look.result (g.R.Source.failures c.args.reader.now)
    (g.R.Source.failures c.lint-writer.new.reader) (g.R.Source.failures c.look_after-look.new.reader)
    c.lint-writer.ensures.reader_failures c.look_after-look.ensures.unasked
    c.look_after-look.ensures.failures

pub returns-in-Answers-clause-looks : goal.returns-in-Answers-clause-looks
returns-in-Answers-clause-looks g c =
    looks_told (lines_of_acks (telling_alone c.in-Answers.form c.in-Answers.statuses.now) None) c.args.limits (g.R.Source.remaining c.args.reader.now)
    (g.R.Source.remaining c.acks_alone-writer.new.reader) (g.R.Source.remaining c.look_after-look-in-Answers.new.reader)
    g.W.Target.contents
    c.args.writer c.acks_alone-writer.result.0 c.acks_alone-writer.result.1 c.look_after-look-in-Answers.result c.acks_alone-writer.ensures.told
    c.look_after-look-in-Answers.ensures.looks

pub returns-in-Answers-clause-reader_failures : goal.returns-in-Answers-clause-reader_failures
returns-in-Answers-clause-reader_failures g c =
    counts_reading c.acks_alone-writer.result.1 c.look_after-look-in-Answers.result (g.R.Source.failures c.args.reader.now)
    (g.R.Source.failures c.acks_alone-writer.new.reader) (g.R.Source.failures c.look_after-look-in-Answers.new.reader)
    c.acks_alone-writer.ensures.reader_failures c.look_after-look-in-Answers.ensures.unasked
    c.look_after-look-in-Answers.ensures.failures

pub returns-in-Answers-clause-judged : goal.returns-in-Answers-clause-judged
returns-in-Answers-clause-judged g c =
    judged_text (lines_of_acks (telling_alone c.in-Answers.form c.in-Answers.statuses.now) None) c.args.limits _ _ g.W.Target.contents c.args.writer c.acks_alone-writer.result.0
    c.acks_alone-writer.result.1 c.acks_alone-writer.ensures.told

-- ---- what is counted

pub returns-in-Findings-clause-counted : goal.returns-in-Findings-clause-counted
returns-in-Findings-clause-counted g c =
    counted_told c.args.telling _ c.args.limits (g.R.Source.remaining c.args.reader.now) c.report_and_look-writer.result.1 c.of_findings.result.findings c.in-Findings.is
    (subst (λ (f : FindingCount). OnOk c.report_and_look-writer.result.1 (CountsAccepted c.args.limits (g.R.Source.remaining c.args.reader.now) f))
    (sym c.of_findings.ensures.findings) (stands_so c.args.limits (g.R.Source.remaining c.args.reader.now) _ (AreFindingsIn c.told.result) c.report_and_look-writer.result.1
    (c.told.ensures.told lines_of_findings)
    (c.report_and_look-writer.ensures.stands lines_of_findings c.new-findings.ensures.stands)))

pub returns-in-Explained-clause-counted : goal.returns-in-Explained-clause-counted
returns-in-Explained-clause-counted g c =
    counted_told c.args.telling _ c.args.limits (g.R.Source.remaining c.args.reader.now) c.explain-writer.result.1 c.of_findings-in-Explained.result.findings c.in-Explained.is
    (subst (λ (f : FindingCount). OnOk c.explain-writer.result.1 (CountsAccepted c.args.limits (g.R.Source.remaining c.args.reader.now) f))
    (sym c.of_findings-in-Explained.ensures.findings) c.explain-writer.ensures.told_of)

pub returns-in-Records-clause-counted : goal.returns-in-Records-clause-counted
returns-in-Records-clause-counted g c =
    counted_told c.args.telling _ c.args.limits (g.R.Source.remaining c.args.reader.now) c.report_and_look-writer-in-Records.result.1 c.of_findings-in-Records.result.findings c.in-Records.is
    (subst (λ (f : FindingCount). OnOk c.report_and_look-writer-in-Records.result.1 (CountsAccepted c.args.limits (g.R.Source.remaining c.args.reader.now) f))
    (sym c.of_findings-in-Records.ensures.findings) (stands_so c.args.limits (g.R.Source.remaining c.args.reader.now) _ (AreFindingsIn c.found.result) c.report_and_look-writer-in-Records.result.1
    (c.found.ensures.found lines_of_counted)
    (c.report_and_look-writer-in-Records.ensures.stands lines_of_counted c.new-records.ensures.stands)))

pub returns-in-Faults-clause-counted : goal.returns-in-Faults-clause-counted
returns-in-Faults-clause-counted g c = uncounted c.args.telling _ c.args.limits _ c.lint-writer.result.1 _ c.in-Faults.is tt

pub returns-in-Data-clause-counted : goal.returns-in-Data-clause-counted
returns-in-Data-clause-counted g c = uncounted c.args.telling _ c.args.limits _ c.report_and_look-writer-in-Data.result.1 _ c.in-Data.is tt

pub returns-in-Rows-clause-counted : goal.returns-in-Rows-clause-counted
returns-in-Rows-clause-counted g c = uncounted c.args.telling _ c.args.limits _ c.report_and_look-writer-in-Rows.result.1 _ c.in-Rows.is tt

pub returns-in-Answers-clause-counted : goal.returns-in-Answers-clause-counted
returns-in-Answers-clause-counted g c = uncounted c.args.telling _ c.args.limits _ c.acks_alone-writer.result.1 _ c.in-Answers.is tt

pub returns-in-Advice-clause-counted : goal.returns-in-Advice-clause-counted
returns-in-Advice-clause-counted g c = uncounted c.args.telling _ c.args.limits _ c.report_and_look-writer-in-Advice.result.1 _ c.in-Advice.is tt

-- ---- what is seen

pub returns-in-Findings-clause-seen : goal.returns-in-Findings-clause-seen
returns-in-Findings-clause-seen g c = λ from unasked.
    sees_found (advice_in c.args.telling) c.args.limits (g.R.Source.remaining c.args.reader.now) from c.of_findings.result.worst c.told.result c.report_and_look-writer.result.1
    (ap advice_in c.in-Findings.is) c.of_findings.ensures.worst (stands_so c.args.limits (g.R.Source.remaining c.args.reader.now) _ (AreFindingsIn c.told.result) c.report_and_look-writer.result.1
    (c.told.ensures.told lines_of_findings)
    (c.report_and_look-writer.ensures.stands lines_of_findings c.new-findings.ensures.stands))

pub returns-in-Explained-clause-seen : goal.returns-in-Explained-clause-seen
returns-in-Explained-clause-seen g c = λ from unasked.
    sees_found (advice_in c.args.telling) c.args.limits (g.R.Source.remaining c.args.reader.now) from c.of_findings-in-Explained.result.worst c.explain-writer.result.3 c.explain-writer.result.1
    (ap advice_in c.in-Explained.is) c.of_findings-in-Explained.ensures.worst c.explain-writer.ensures.told_of

pub returns-in-Records-clause-seen : goal.returns-in-Records-clause-seen
returns-in-Records-clause-seen g c = λ from unasked.
    sees_found (advice_in c.args.telling) c.args.limits (g.R.Source.remaining c.args.reader.now) from c.of_findings-in-Records.result.worst c.found.result c.report_and_look-writer-in-Records.result.1
    (ap advice_in c.in-Records.is) c.of_findings-in-Records.ensures.worst (stands_so c.args.limits (g.R.Source.remaining c.args.reader.now) _ (AreFindingsIn c.found.result) c.report_and_look-writer-in-Records.result.1
    (c.found.ensures.found lines_of_counted)
    (c.report_and_look-writer-in-Records.ensures.stands lines_of_counted c.new-records.ensures.stands))

pub returns-in-Faults-clause-seen : goal.returns-in-Faults-clause-seen
returns-in-Faults-clause-seen g c = λ from unasked.
    sees_nothing (advice_in c.args.telling) c.args.limits (g.R.Source.remaining c.args.reader.now) from c.nothing.result.worst c.lint-writer.result.1
    (ap advice_in c.in-Faults.is) c.nothing.ensures.worst (unasked (ap tells_findings c.in-Faults.is))

pub returns-in-Data-clause-seen : goal.returns-in-Data-clause-seen
returns-in-Data-clause-seen g c = λ from unasked.
    sees_nothing (advice_in c.args.telling) c.args.limits (g.R.Source.remaining c.args.reader.now) from c.nothing-in-Data.result.worst c.report_and_look-writer-in-Data.result.1
    (ap advice_in c.in-Data.is) c.nothing-in-Data.ensures.worst (unasked (ap tells_findings c.in-Data.is))

pub returns-in-Rows-clause-seen : goal.returns-in-Rows-clause-seen
returns-in-Rows-clause-seen g c = λ from unasked.
    sees_nothing (advice_in c.args.telling) c.args.limits (g.R.Source.remaining c.args.reader.now) from c.nothing-in-Rows.result.worst c.report_and_look-writer-in-Rows.result.1
    (ap advice_in c.in-Rows.is) c.nothing-in-Rows.ensures.worst (unasked (ap tells_findings c.in-Rows.is))

pub returns-in-Answers-clause-seen : goal.returns-in-Answers-clause-seen
returns-in-Answers-clause-seen g c = λ from unasked.
    sees_nothing (advice_in c.args.telling) c.args.limits (g.R.Source.remaining c.args.reader.now) from c.of_answers.result.worst c.acks_alone-writer.result.1
    (ap advice_in c.in-Answers.is) c.of_answers.ensures.worst (unasked (ap tells_findings c.in-Answers.is))

pub returns-in-Advice-clause-seen : goal.returns-in-Advice-clause-seen
returns-in-Advice-clause-seen g c = λ from unasked.
    sees_advice (advice_in c.args.telling) c.in-Advice.all c.in-Advice.repeated c.args.limits (g.R.Source.remaining c.args.reader.now) from c.of_advice.result.worst
    c.worst.result c.report_and_look-writer-in-Advice.result.1 (ap advice_in c.in-Advice.is) c.of_advice.ensures.worst
    (stands_so c.args.limits (g.R.Source.remaining c.args.reader.now) _ (IsWorstTold (lines_of_advice c.in-Advice.all c.in-Advice.repeated) c.worst.result) c.report_and_look-writer-in-Advice.result.1
    (c.worst.ensures.worst (lines_of_advice c.in-Advice.all c.in-Advice.repeated))
    (c.report_and_look-writer-in-Advice.ensures.stands (lines_of_advice c.in-Advice.all c.in-Advice.repeated) c.new-advice.ensures.stands))
