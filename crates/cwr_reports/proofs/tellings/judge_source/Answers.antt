use Rattle.std.proofs.Common.{◌≡◌, Bool, true, sym, subst}
use Rattle.std.specs.Prelude.{IfOk, Ok, OnOk, Result}
use Rattle.cwr_tools.specs.declared.verdicts.ToolFault.{ToolFault}
use Rattle.cwr_endings.specs.declared.judgements.Judgement.{Judgement}
use Rattle.cwr_reports.specs.Steps.Looks.{IsJudged, JudgesOn, SeesFound}
use Rattle.cwr_reports.specs.Format.Endings.{advice_in}
use Rattle.cwr_files.specs.Format.Faults.{IfErr}
use Rattle.cwr_reports.specs.Steps.Tellings.{CountsFindings, CountsInput, CountsWriting, StopsTold, TellsText}
use Rattle.cwr_reports.proofs.lemmas.Told.{told_stopped}
use Rattle.cwr_reports.proofs.lemmas.EndsOnTexts.{counts_input, judged_counts, judged_on, judgement_read, judges_on, told_verdict}
use Rattle.cwr_reports.proofs.tellings.judge_source.Goals as goal

pub returns-clause-judges : goal.returns-clause-judges
returns-clause-judges g c =
    subst (λ (r : Result Judgement ToolFault). JudgesOn (advice_in c.args.telling) c.args.asked.now.limits c.args.asked.now.wanted
    (g.R.Source.remaining c.args.reader.now) r) (sym c.judgement_of-judged.ensures)
    (judges_on (advice_in c.args.telling) c.args.asked.now.limits c.args.asked.now.wanted
    (g.R.Source.remaining c.args.reader.now) c.tell-writer.result.1 c.tell-writer.result.2 c.reaches-found.result
    c.tell-writer.ensures.judged
    (subst (λ (b : Bool). OnOk c.tell-writer.result.1 (SeesFound (advice_in c.args.telling) c.args.asked.now.wanted.fail_on
    c.args.asked.now.limits (g.R.Source.remaining c.args.reader.now) b)) (sym c.reaches-found.ensures)
    (c.tell-writer.ensures.seen c.args.asked.now.wanted.fail_on c.requires)) c.tell-writer.ensures.looks)

pub returns-clause-told : goal.returns-clause-told
returns-clause-told g c =
    subst (λ (r : Result Judgement ToolFault). IfOk r (λ judgement. TellsText c.args.telling c.args.asked.now.limits
    (g.R.Source.remaining c.args.reader.now) g.W.Target.contents c.args.writer c.tell-writer.result.0
    (Ok judgement.verdict))) (sym c.judgement_of-judged.ensures)
    (told_verdict c.args.telling c.args.asked.now.limits _ g.W.Target.contents c.args.writer c.tell-writer.result.0
    c.args.asked.now.wanted c.tell-writer.result.1 c.tell-writer.result.2 c.reaches-found.result
    c.tell-writer.ensures.told)

pub returns-clause-reader_failures : goal.returns-clause-reader_failures
returns-clause-reader_failures g c =
    subst (λ (r : Result Judgement ToolFault). CountsInput r (g.R.Source.failures c.args.reader.now)
    (g.R.Source.failures c.tell-writer.new.reader)) (sym c.judgement_of-judged.ensures)
    (counts_input c.args.asked.now.wanted c.tell-writer.result.1 c.tell-writer.result.2 c.reaches-found.result
    (g.R.Source.failures c.args.reader.now) (g.R.Source.failures c.tell-writer.new.reader)
    c.tell-writer.ensures.reader_failures)

pub returns-clause-writer_failures : goal.returns-clause-writer_failures
returns-clause-writer_failures g c =
    subst (λ (r : Result Judgement ToolFault). CountsWriting r (g.W.Target.failures c.args.writer)
    (g.W.Target.failures c.tell-writer.result.0)) (sym c.judgement_of-judged.ensures)
    (judged_counts c.args.asked.now.wanted c.tell-writer.result.1 c.tell-writer.result.2 c.reaches-found.result
    (g.W.Target.failures c.args.writer) (g.W.Target.failures c.tell-writer.result.0) c.tell-writer.ensures.writer_failures)

pub returns-clause-handed_on : goal.returns-clause-handed_on
returns-clause-handed_on g c =
    subst (λ (r : Result Judgement ToolFault). OnOk r (g.W.Target.handed_on c.tell-writer.result.0 ≡ true))
    (sym c.judgement_of-judged.ensures)
    (judged_on (g.W.Target.handed_on c.tell-writer.result.0 ≡ true) c.args.asked.now.wanted c.tell-writer.result.1
    c.tell-writer.result.2 c.reaches-found.result c.tell-writer.ensures.handed_on)

pub returns-clause-counted : goal.returns-clause-counted
returns-clause-counted g c =
    subst (λ (r : Result Judgement ToolFault). OnOk r (CountsFindings c.args.telling c.args.asked.now.limits
    (g.R.Source.remaining c.args.reader.now) c.tell-writer.result.3.findings)) (sym c.judgement_of-judged.ensures)
    (judged_on (CountsFindings c.args.telling c.args.asked.now.limits (g.R.Source.remaining c.args.reader.now)
    c.tell-writer.result.3.findings) c.args.asked.now.wanted c.tell-writer.result.1 c.tell-writer.result.2
    c.reaches-found.result c.tell-writer.ensures.counted)

pub returns-clause-stopped : goal.returns-clause-stopped
returns-clause-stopped g c =
    subst (λ (r : Result Judgement ToolFault). IfErr r (StopsTold c.args.telling c.args.asked.now.limits
    (g.R.Source.remaining c.args.reader.now) g.W.Target.contents c.args.writer c.tell-writer.result.0)) (sym c.judgement_of-judged.ensures)
    (told_stopped c.args.telling c.args.asked.now.limits (g.R.Source.remaining c.args.reader.now) g.W.Target.contents c.args.writer
    c.tell-writer.result.0 c.args.asked.now.wanted c.tell-writer.result.1 c.tell-writer.result.2 c.reaches-found.result
    c.tell-writer.ensures.told)

pub returns-clause-read : goal.returns-clause-read
returns-clause-read g c =
    subst (λ (r : Result Judgement ToolFault). IfOk r IsJudged) (sym c.judgement_of-judged.ensures)
    (judgement_read c.args.asked.now.wanted c.tell-writer.result.1 c.tell-writer.result.2 c.reaches-found.result)
