use Rattle.std.proofs.Common.{Bool, true, false, sym, subst}
use Rattle.std.specs.Prelude.{IfOk}
use Rattle.std.specs.Option.{is_some}
use Rattle.cwr_tools.specs.Format.Reports.{lines_up_to_fault}
use Rattle.cwr_advise.specs.Format.AdviceLines.{lines_advised}
use Rattle.cwr_lint.specs.Format.Wanted.{manner_of, wanting}
use Rattle.cwr_lint.specs.Steps.Lints.{Lints, Tells}
use Rattle.cwr_lint.proofs.lemmas.Tells.{accepted_run, lints_run, tells_run}
use Rattle.cwr_lint.proofs.linting.lint.Goals as goal

pub returns-in-true-clause-lints : goal.returns-in-true-clause-lints
returns-in-true-clause-lints g c = let run = c.write_report_and.ensures (lines_advised (manner_of c.is_some-explained.result c.args.all) true 0) c.up_to_fault-lines.ensures.stands in
    subst (λ (b : Bool). Lints (wanting (is_some c.args.name) b c.args.all) c.args.limits (g.R.Source.remaining c.args.reader.now)
    (g.R.Source.remaining c.write_report_and.new.reader) g.W.Target.contents c.args.writer c.write_report_and.result.0 c.write_report_and.result.1) (sym c.in-true.is)
    (lints_run (wanting (is_some c.args.name) true c.args.all) c.args.limits (g.R.Source.remaining c.args.reader.now) run.left
    (g.R.Source.remaining c.write_report_and.new.reader) g.W.Target.contents c.args.writer run.between c.write_report_and.result.0 run.checked
    c.write_report_and.result.1 _ _ (λ said found advice h given here. h (manner_of c.is_some-explained.result c.args.all) given here) run.stood c.is_some-explained.result
    c.is_some-explained.ensures run.reported run.goes_on)

pub returns-in-true-clause-tells : goal.returns-in-true-clause-tells
returns-in-true-clause-tells g c = let run = c.write_report_and.ensures (lines_advised (manner_of c.is_some-explained.result c.args.all) true 0) c.up_to_fault-lines.ensures.stands in
    subst (λ (b : Bool). IfOk c.write_report_and.result.1 (Tells (wanting (is_some c.args.name) b c.args.all) c.args.limits
    (g.R.Source.remaining c.args.reader.now) (g.R.Source.remaining c.write_report_and.new.reader) g.W.Target.contents c.args.writer c.write_report_and.result.0)) (sym c.in-true.is)
    (tells_run (wanting (is_some c.args.name) true c.args.all) c.args.limits (g.R.Source.remaining c.args.reader.now) run.left
    (g.R.Source.remaining c.write_report_and.new.reader) g.W.Target.contents c.args.writer run.between c.write_report_and.result.0 run.checked
    c.write_report_and.result.1 _ _ (λ said found advice h given here. h (manner_of c.is_some-explained.result c.args.all) given here) run.stood c.is_some-explained.result
    c.is_some-explained.ensures run.reported run.goes_on)

pub returns-in-true-clause-accepted : goal.returns-in-true-clause-accepted
returns-in-true-clause-accepted g c =
    accepted_run (wanting (is_some c.args.name) c.args.advised c.args.all) c.args.limits (g.R.Source.remaining c.args.reader.now)
    (g.R.Source.remaining c.write_report_and.new.reader) g.W.Target.contents c.args.writer c.write_report_and.result.0 c.write_report_and.result.1
    (c.write_report_and.ensures (lines_advised (manner_of c.is_some-explained.result c.args.all) true 0) c.up_to_fault-lines.ensures.stands).judged (returns-in-true-clause-tells g c)

pub returns-in-true-clause-judged : goal.returns-in-true-clause-judged
returns-in-true-clause-judged g c = (c.write_report_and.ensures (lines_advised (manner_of c.is_some-explained.result c.args.all) true 0) c.up_to_fault-lines.ensures.stands).judged

pub returns-in-true-clause-written : goal.returns-in-true-clause-written
returns-in-true-clause-written g c = (c.write_report_and.ensures (lines_advised (manner_of c.is_some-explained.result c.args.all) true 0) c.up_to_fault-lines.ensures.stands).counted

pub returns-in-true-clause-reader_failures : goal.returns-in-true-clause-reader_failures
returns-in-true-clause-reader_failures g c = (c.write_report_and.ensures (lines_advised (manner_of c.is_some-explained.result c.args.all) true 0) c.up_to_fault-lines.ensures.stands).reader_failures

pub returns-in-true-clause-writer_failures : goal.returns-in-true-clause-writer_failures
returns-in-true-clause-writer_failures g c = (c.write_report_and.ensures (lines_advised (manner_of c.is_some-explained.result c.args.all) true 0) c.up_to_fault-lines.ensures.stands).writer_failures

pub returns-in-true-clause-handed_on : goal.returns-in-true-clause-handed_on
returns-in-true-clause-handed_on g c = (c.write_report_and.ensures (lines_advised (manner_of c.is_some-explained.result c.args.all) true 0) c.up_to_fault-lines.ensures.stands).all_handed_on

pub returns-in-false-clause-lints : goal.returns-in-false-clause-lints
returns-in-false-clause-lints g c = let run = c.write_report_and-in-false.ensures (lines_up_to_fault c.is_some-explained.result) c.up_to_fault-lines-in-false.ensures.stands in
    subst (λ (b : Bool). Lints (wanting (is_some c.args.name) b c.args.all) c.args.limits (g.R.Source.remaining c.args.reader.now)
    (g.R.Source.remaining c.write_report_and-in-false.new.reader) g.W.Target.contents c.args.writer c.write_report_and-in-false.result.0 c.write_report_and-in-false.result.1) (sym c.in-false.is)
    (lints_run (wanting (is_some c.args.name) false c.args.all) c.args.limits (g.R.Source.remaining c.args.reader.now) run.left
    (g.R.Source.remaining c.write_report_and-in-false.new.reader) g.W.Target.contents c.args.writer run.between c.write_report_and-in-false.result.0 run.checked
    c.write_report_and-in-false.result.1 _ _ (λ said found advice h given here. h (lines_up_to_fault c.is_some-explained.result) given here) run.stood c.is_some-explained.result
    c.is_some-explained.ensures run.reported run.goes_on)

pub returns-in-false-clause-tells : goal.returns-in-false-clause-tells
returns-in-false-clause-tells g c = let run = c.write_report_and-in-false.ensures (lines_up_to_fault c.is_some-explained.result) c.up_to_fault-lines-in-false.ensures.stands in
    subst (λ (b : Bool). IfOk c.write_report_and-in-false.result.1 (Tells (wanting (is_some c.args.name) b c.args.all) c.args.limits
    (g.R.Source.remaining c.args.reader.now) (g.R.Source.remaining c.write_report_and-in-false.new.reader) g.W.Target.contents c.args.writer c.write_report_and-in-false.result.0)) (sym c.in-false.is)
    (tells_run (wanting (is_some c.args.name) false c.args.all) c.args.limits (g.R.Source.remaining c.args.reader.now) run.left
    (g.R.Source.remaining c.write_report_and-in-false.new.reader) g.W.Target.contents c.args.writer run.between c.write_report_and-in-false.result.0 run.checked
    c.write_report_and-in-false.result.1 _ _ (λ said found advice h given here. h (lines_up_to_fault c.is_some-explained.result) given here) run.stood c.is_some-explained.result
    c.is_some-explained.ensures run.reported run.goes_on)

pub returns-in-false-clause-accepted : goal.returns-in-false-clause-accepted
returns-in-false-clause-accepted g c =
    accepted_run (wanting (is_some c.args.name) c.args.advised c.args.all) c.args.limits (g.R.Source.remaining c.args.reader.now)
    (g.R.Source.remaining c.write_report_and-in-false.new.reader) g.W.Target.contents c.args.writer c.write_report_and-in-false.result.0 c.write_report_and-in-false.result.1
    (c.write_report_and-in-false.ensures (lines_up_to_fault c.is_some-explained.result) c.up_to_fault-lines-in-false.ensures.stands).judged (returns-in-false-clause-tells g c)

pub returns-in-false-clause-judged : goal.returns-in-false-clause-judged
returns-in-false-clause-judged g c = (c.write_report_and-in-false.ensures (lines_up_to_fault c.is_some-explained.result) c.up_to_fault-lines-in-false.ensures.stands).judged

pub returns-in-false-clause-written : goal.returns-in-false-clause-written
returns-in-false-clause-written g c = (c.write_report_and-in-false.ensures (lines_up_to_fault c.is_some-explained.result) c.up_to_fault-lines-in-false.ensures.stands).counted

pub returns-in-false-clause-reader_failures : goal.returns-in-false-clause-reader_failures
returns-in-false-clause-reader_failures g c = (c.write_report_and-in-false.ensures (lines_up_to_fault c.is_some-explained.result) c.up_to_fault-lines-in-false.ensures.stands).reader_failures

pub returns-in-false-clause-writer_failures : goal.returns-in-false-clause-writer_failures
returns-in-false-clause-writer_failures g c = (c.write_report_and-in-false.ensures (lines_up_to_fault c.is_some-explained.result) c.up_to_fault-lines-in-false.ensures.stands).writer_failures

pub returns-in-false-clause-handed_on : goal.returns-in-false-clause-handed_on
returns-in-false-clause-handed_on g c = (c.write_report_and-in-false.ensures (lines_up_to_fault c.is_some-explained.result) c.up_to_fault-lines-in-false.ensures.stands).all_handed_on
