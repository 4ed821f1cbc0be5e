use Rattle.std.proofs.Common.{subst}
use Rattle.cwr_tools.specs.Format.Reports.{ItemLines}
use Rattle.cwr_tools.specs.Steps.Reports.{Reports}
use Rattle.cwr_acks.specs.Format.AckLines.{lines_of_acks, telling_of}
use Rattle.cwr_acks.specs.Steps.AckSteps.{held_if}
use Rattle.cwr_acks.proofs.lemmas.LeftHeld.{keeps_answers}
use Rattle.cwr_acks.proofs.lemmas.LinesOfItems.{same_lines}
use Rattle.cwr_tools.proofs.lemmas.ToldTexts.{reports_text}
use Rattle.cwr_acks.proofs.running.acks.Goals as goal

pub returns-clause-reported : goal.returns-clause-reported
returns-clause-reported g c = λ telling matched so kept.
    subst (λ (of : ItemLines). Reports of c.args.limits (g.R.Source.remaining c.args.reader.now)
    (g.R.Source.remaining c.write_answers.new.reader) g.W.Target.contents c.args.writer c.write_answers.result.0
    c.write_answers.result.3) (same_lines telling (telling_of c.args.manner) matched (held_if c.args.delivery) so kept)
    c.write_answers.ensures.runs.reported

pub returns-clause-told : goal.returns-clause-told
returns-clause-told g c = λ telling matched so kept.
    reports_text (lines_of_acks telling matched) c.args.limits _ _ g.W.Target.contents c.args.writer
    c.write_answers.result.0 c.write_answers.result.3 (returns-clause-reported g c telling matched so kept)

pub returns-clause-kept : goal.returns-clause-kept
returns-clause-kept g c = λ matched kept.
    keeps_answers (held_if c.args.delivery) (held_if c.write_answers.result.1) matched c.args.limits _ _ c.write_answers.result.3
    c.write_answers.result.2 kept c.write_answers.ensures.kept

pub returns-clause-reader_failures : goal.returns-clause-reader_failures
returns-clause-reader_failures g c = c.write_answers.ensures.runs.reader_failures

pub returns-clause-writer_failures : goal.returns-clause-writer_failures
returns-clause-writer_failures g c = c.write_answers.ensures.runs.writer_failures

pub returns-clause-handed_on : goal.returns-clause-handed_on
returns-clause-handed_on g c = c.write_answers.ensures.runs.all_handed_on
