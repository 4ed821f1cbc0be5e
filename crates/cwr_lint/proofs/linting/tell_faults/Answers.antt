use Rattle.std.proofs.Common.{[], ◌-◌, subst}
use Rattle.std.specs.Prelude.{IfOk}
use Rattle.cwr_lint_lines.specs.declared.states.LintState.{LintState}
use Rattle.cwr_tools.specs.declared.verdicts.Verdict.TheVariants.{Refused}
use Rattle.cwr_tools.specs.Format.Reports.{CountsWriterFault}
use Rattle.cwr_lint_lines.specs.Steps.Fronts.{state_at}
use Rattle.cwr_lint.specs.Steps.CutShort.{LeavesOrUnread, TellsAfterUpTo, TellsLastUpTo}
use Rattle.cwr_lint.specs.Steps.Runs.{asking_of, TellsAfter, TellsRun}
use Rattle.cwr_lint.specs.Steps.Walks.{begins_at}
use Rattle.cwr_lint.proofs.lemmas.CutShort.{ends_cut, run_whole}
use Rattle.cwr_lint.proofs.lemmas.TextsTold.{ends_answer, ends_counted, ends_reader, ends_told, ends_words, ends_writer}
use Rattle.cwr_lint.proofs.linting.tell_faults.Goals as goal

pub returns-clause-told : goal.returns-clause-told
returns-clause-told g c = let told = c.run-told.ensures.tells in
    ends_told (TellsRun (asking_of c.args.asked.now)
    (begins_at (state_at c.args.last.now.stage c.args.last.now.counts (c.args.refusal.rec - 1)) c.args.findings c.args.advice) c.args.refusal c.args.last.now.bytes
    (g.R.Source.remaining c.args.reader.now)
    (g.R.Source.remaining c.run-told.new.reader)) g.W.Target.contents (g.W.Target.contents
    c.args.writer) c.finish.result.0 (Refused c.args.refusal) _ told.0 c.run-told.new.sink c.run-told.result _ _ c.finish.result.1
    (subst (λ (s : LintState). IfOk c.run-told.result (λ (u : Unit {0}). TellsRun (asking_of c.args.asked.now) (begins_at s c.args.findings c.args.advice) c.args.refusal
    c.args.last.now.bytes (g.R.Source.remaining c.args.reader.now) (g.R.Source.remaining c.run-told.new.reader)
    told.0)) c.state_before-begins.ensures.is told.2)
    (told.1.unfailed c.new-sink.ensures.unfailed) c.finish.ensures.kept
    (told.1.written (g.W.Target.contents c.args.writer) [] c.new-sink.ensures.empty) c.finish.ensures.answer

pub returns-clause-words : goal.returns-clause-words
returns-clause-words g c = let told = c.run-told.ensures.tells in
    ends_words g.W.Target.contents c.args.writer c.finish.result.0 told.0 c.run-told.new.sink c.finish.ensures.kept
    (told.1.written (g.W.Target.contents c.args.writer) [] c.new-sink.ensures.empty)

pub returns-clause-taken : goal.returns-clause-taken
returns-clause-taken g c = c.run-told.ensures.tells.1.taken

pub returns-clause-answered : goal.returns-clause-answered
returns-clause-answered g c =
    ends_answer (Refused c.args.refusal) _ c.run-told.result c.finish.result.1 _ _ _ _ _ (c.run-told.ensures.tells.1.counts c.new-sink.ensures.unfailed) c.finish.ensures.answer

pub returns-clause-reader_failures : goal.returns-clause-reader_failures
returns-clause-reader_failures g c =
    ends_reader (Refused c.args.refusal) _ c.run-told.result c.finish.result.1 _ _ _ _ _ (c.run-told.ensures.tells.1.counts c.new-sink.ensures.unfailed) c.finish.ensures.answer

pub returns-clause-writer_failures : goal.returns-clause-writer_failures
returns-clause-writer_failures g c =
    subst (λ (w : _). CountsWriterFault c.finish.result.1 (g.W.Target.failures w) (g.W.Target.failures c.finish.result.0))
    c.new-sink.ensures.writer
    (ends_writer (Refused c.args.refusal) _ c.run-told.result c.finish.result.1 _ _ _ _ _ (c.run-told.ensures.tells.1.counts c.new-sink.ensures.unfailed) c.finish.ensures.answer)

pub returns-clause-counted : goal.returns-clause-counted
returns-clause-counted g c = let told = c.run-told.ensures.tells in
    ends_counted (Refused c.args.refusal) g.W.Target.contents c.args.writer c.finish.result.0 c.args.before told.0 c.run-told.new.sink
    c.run-told.result _ _ c.finish.result.1 c.finish.ensures.kept
    (told.1.written (g.W.Target.contents c.args.writer) [] c.new-sink.ensures.empty) c.finish.ensures.answer

pub returns-clause-leaves : goal.returns-clause-leaves
returns-clause-leaves g c = let told = c.run-told.ensures.tells in
    let left = g.R.Source.remaining c.args.reader.now in
    let after = g.R.Source.remaining c.run-told.new.reader in
    let begins : LintState = state_at c.args.last.now.stage c.args.last.now.counts (c.args.refusal.rec - 1) in
    ends_cut (TellsAfter (asking_of c.args.asked.now) c.args.last.now c.args.findings c.args.advice c.args.refusal left after)
    (TellsAfterUpTo (asking_of c.args.asked.now) c.args.last.now c.args.findings c.args.advice c.args.refusal left) g.W.Target.contents c.args.writer
    c.finish.result.0 (Refused c.args.refusal) _ told.0 c.new-sink.result c.run-told.new.sink c.run-told.result _ _ c.finish.result.1
    (λ text run. run_whole (asking_of c.args.asked.now) (begins_at begins c.args.findings c.args.advice) c.args.refusal c.args.last.now.bytes left after text run)
    (subst (λ (s : LintState). IfOk c.run-told.result (λ (u : Unit {0}). TellsRun (asking_of c.args.asked.now) (begins_at s c.args.findings c.args.advice) c.args.refusal
    c.args.last.now.bytes left after told.0)) c.state_before-begins.ensures.is told.2)
    (subst (λ (s : LintState). LeavesOrUnread (TellsLastUpTo (asking_of c.args.asked.now) (begins_at s c.args.findings c.args.advice) c.args.refusal c.args.last.now.bytes left)
    g.W.Target.contents c.run-told.result c.new-sink.result c.run-told.new.sink) c.state_before-begins.ensures.is
    c.run-told.ensures.leaves) c.new-sink.ensures.unfailed c.new-sink.ensures.empty
    (told.1.written (g.W.Target.contents c.args.writer) [] c.new-sink.ensures.empty) c.finish.ensures.kept
    c.finish.ensures.answer
