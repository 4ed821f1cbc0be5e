use Rattle.std.proofs.Common.{ℕ, refl, subst}
use Rattle.std.specs.Prelude.{Ok, Err}
use Rattle.cwr_tools.specs.declared.verdicts.ToolFault.TheVariants as tool_faults
use Rattle.cwr_parts.proofs.lemmas.ToldRuns.{told_judged}
use Rattle.cwr_endings.specs.declared.endings.Look.TheVariants as looks
use Rattle.cwr_endings.specs.Steps.Looks.{CountsLook}
use Rattle.cwr_transform.specs.Steps.Splits.{HandsOver}
use Rattle.cwr_transform.proofs.lemmas.SplitFails.{reads_failed}
use Rattle.cwr_transform.proofs.lemmas.SplitsEnd.{cut_failed, cut_judged, findings_seen}
use Rattle.cwr_transform.proofs.splits.cut_source.Goals as goal

pub returns-else-view-clause-judged : goal.returns-else-view-clause-judged
returns-else-view-clause-judged g c =
    cut_judged c.args.cut.now.limits (g.R.Source.remaining c.args.reader.now) (g.R.Source.remaining c.split_viewed.new.reader)
    (g.R.Source.remaining c.look_beyond.new.reader) c.in-Ok.report c.look_beyond.result
    (told_judged c.args.cut.now.limits _ (g.R.Source.remaining c.args.reader.now) (g.R.Source.remaining c.split_viewed.new.reader)
    (g.O.Outputs.texts c.args.outputs.now) (g.O.Outputs.texts c.split_viewed.new.outputs) (Ok c.in-Ok.report)
    c.in-Ok.ensures.told)
    c.look_beyond.ensures.look

pub returns-else-view-clause-counted : goal.returns-else-view-clause-counted
returns-else-view-clause-counted g c =
    findings_seen c.args.cut.now.limits (g.R.Source.remaining c.args.reader.now) c.new-view.result c.split_viewed.new.viewer
    c.new-view.ensures c.if-view.false c.in-Ok.ensures.seen

pub returns-in-Err-clause-judged : goal.returns-in-Err-clause-judged
returns-in-Err-clause-judged g c =
    cut_failed c.args.cut.now.limits (g.R.Source.remaining c.args.reader.now) (g.R.Source.remaining c.split_viewed.new.reader)
    c.in-Err.fault looks.Unasked
    (told_judged c.args.cut.now.limits _ (g.R.Source.remaining c.args.reader.now) (g.R.Source.remaining c.split_viewed.new.reader)
    (g.O.Outputs.texts c.args.outputs.now) (g.O.Outputs.texts c.split_viewed.new.outputs) (Err c.in-Err.fault)
    c.in-Err.ensures.told)

pub returns-then-view-clause-handed : goal.returns-then-view-clause-handed
returns-then-view-clause-handed g c =
    subst (λ (n : ℕ). HandsOver c.args.cut.now.limits n (g.R.Source.remaining c.args.reader.now) (g.O.Outputs.texts c.args.outputs.now)
    (g.O.Outputs.texts c.split_viewed.new.outputs) (Err tool_faults.Memory)) c.get-size.ensures.value
    (Ok c.in-Ok.report, g.R.Source.remaining c.split_viewed.new.reader, c.in-Ok.ensures.told, tt)

pub returns-else-view-clause-handed : goal.returns-else-view-clause-handed
returns-else-view-clause-handed g c =
    subst (λ (n : ℕ). HandsOver c.args.cut.now.limits n (g.R.Source.remaining c.args.reader.now) (g.O.Outputs.texts c.args.outputs.now)
    (g.O.Outputs.texts c.split_viewed.new.outputs) (Ok c.in-Ok.report)) c.get-size.ensures.value
    (Ok c.in-Ok.report, g.R.Source.remaining c.split_viewed.new.reader, c.in-Ok.ensures.told, refl)

pub returns-in-Err-clause-handed : goal.returns-in-Err-clause-handed
returns-in-Err-clause-handed g c =
    subst (λ (n : ℕ). HandsOver c.args.cut.now.limits n (g.R.Source.remaining c.args.reader.now) (g.O.Outputs.texts c.args.outputs.now)
    (g.O.Outputs.texts c.split_viewed.new.outputs) (Err c.in-Err.fault)) c.get-size.ensures.value
    (Err c.in-Err.fault, g.R.Source.remaining c.split_viewed.new.reader, c.in-Err.ensures.told, refl)

pub returns-else-view-clause-reads : goal.returns-else-view-clause-reads
returns-else-view-clause-reads g c =
    subst (λ (n : ℕ). CountsLook c.look_beyond.result n (g.R.Source.failures c.look_beyond.new.reader)) c.in-Ok.ensures.reader_failures
    c.look_beyond.ensures.failures

pub returns-in-Err-clause-reads : goal.returns-in-Err-clause-reads
returns-in-Err-clause-reads g c =
    reads_failed c.in-Err.fault looks.Unasked (g.R.Source.failures c.args.reader.now) (g.R.Source.failures c.split_viewed.new.reader)
    c.in-Err.ensures.reader_failures
