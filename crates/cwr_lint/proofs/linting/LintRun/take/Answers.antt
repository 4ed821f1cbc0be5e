use Rattle.std.proofs.Common.{Option, List, ap, subst, ◌∙◌}
use Rattle.cwr_lines.specs.Format.Records.{RecordValue}
use Rattle.std.specs.Option.{is_some}
use Rattle.cwr_lint_lines.specs.Format.FaultsAtFields.{one_more_line}
use Rattle.cwr_lint_lines.specs.Steps.JudgedLines.{judged_at, scope_by}
use Rattle.cwr_lint_lines.specs.Steps.Cells.{held_cut}
use Rattle.cwr_lint.specs.Steps.Runs.{asking_of, TakesLine, TellsOfLine, more_faults, walk_of}
use Rattle.cwr_lint.specs.Steps.Walks.{AfterJudged, ended_by, state_by, told_ended}
use Rattle.cwr_lint_lines.specs.declared.states.LintState.{LintState}
use Rattle.cwr_lint.specs.Steps.CutShort.{TellsPart, WalksPart}
use Rattle.cwr_lint.proofs.lemmas.CutShort.{leaves_other, leaves_whole, part_at, whole_part}
use Rattle.cwr_lint.proofs.lemmas.Telling.{line_taken, with_err, with_none, with_other}
use Rattle.cwr_lint.proofs.linting.LintRun.take.Goals as goal

pub returns-in-Err-clause-puts : goal.returns-in-Err-clause-puts
returns-in-Err-clause-puts g c =
    with_err (TellsOfLine (asking_of c.args.asked.now)
    (judged_at c.args.self.now.state.lines (scope_by c.args.self.now.state.group) c.args.line.now c.of-judged.result)
    (ended_by c.of-judged.result c.args.self.now.state c.args.self.now.begun)
    (told_ended (asking_of c.args.asked.now) c.args.self.now.advice
    (ended_by c.of-judged.result c.args.self.now.state c.args.self.now.begun)) c.args.from)
    (λ u. TakesLine (asking_of c.args.asked.now) (held_cut c.args.line.now) c.args.from c.args.self.now c.tell_all.new.self)
    g.W.Target.contents g.W.Target.failures c.in-Err.fault c.args.sink.now c.tell_all.new.sink c.in-Err.ensures.puts

pub returns-in-Ok-step-clause-puts : goal.returns-in-Ok-step-clause-puts
returns-in-Ok-step-clause-puts g c =
    with_other (TellsOfLine (asking_of c.args.asked.now)
    (judged_at c.args.self.now.state.lines (scope_by c.args.self.now.state.group) c.args.line.now c.of-judged.result)
    (ended_by c.of-judged.result c.args.self.now.state c.args.self.now.begun)
    (told_ended (asking_of c.args.asked.now) c.args.self.now.advice
    (ended_by c.of-judged.result c.args.self.now.state c.args.self.now.begun)) c.args.from)
    (λ u. TakesLine (asking_of c.args.asked.now) (held_cut c.args.line.now) c.args.from c.args.self.now c.step.new.self)
    g.W.Target.contents g.W.Target.failures c.in-Ok.told tt c.args.sink.now c.tell_all.new.sink
    (λ text t. line_taken (asking_of c.args.asked.now) c.args.line.now c.of-judged.result c.args.from c.in-Ok.told
    c.is_good-is_good.result c.args.self.now c.step.new.self text c.of-judged.ensures.judged c.of-judged.ensures.is t
    c.is_good-is_good.ensures
    (c.in-Ok-step.ensures.state
    ∙ ap (λ (s : LintState). state_by c.of-judged.result s (held_cut c.args.line.now)) c.in-Ok.ensures.state)
    (subst (λ (b : Option (List RecordValue)). AfterJudged c.is_good-is_good.result c.of-judged.result
    (is_some c.step.new.self.state.stage) b (held_cut c.args.line.now)
    c.step.new.self.begun) c.in-Ok.ensures.begun c.in-Ok-step.ensures.begun)
    (c.in-Ok-step.ensures.lines ∙ ap (λ (s : LintState). one_more_line s.lines) c.in-Ok.ensures.state)
    (c.in-Ok-step.ensures.faults ∙ c.saturating_add-self.ensures ∙ ap (λ n. more_faults n c.in-Ok.told) c.in-Ok.ensures.faults)
    c.in-Ok-step.ensures.over (c.in-Ok-step.ensures.findings ∙ c.in-Ok.ensures.findings)
    (c.in-Ok-step.ensures.advice ∙ c.in-Ok.ensures.advice)) c.in-Ok.ensures.puts

pub returns-in-Err-step-clause-puts : goal.returns-in-Err-step-clause-puts
returns-in-Err-step-clause-puts g c =
    with_none (TellsOfLine (asking_of c.args.asked.now)
    (judged_at c.args.self.now.state.lines (scope_by c.args.self.now.state.group) c.args.line.now c.of-judged.result)
    (ended_by c.of-judged.result c.args.self.now.state c.args.self.now.begun)
    (told_ended (asking_of c.args.asked.now) c.args.self.now.advice
    (ended_by c.of-judged.result c.args.self.now.state c.args.self.now.begun)) c.args.from)
    (λ u. TakesLine (asking_of c.args.asked.now) (held_cut c.args.line.now) c.args.from c.args.self.now c.tell_all.new.self)
    g.W.Target.contents g.W.Target.failures c.in-Ok.told c.args.sink.now c.tell_all.new.sink c.in-Ok.ensures.puts

pub returns-in-Err-clause-leaves : goal.returns-in-Err-clause-leaves
returns-in-Err-clause-leaves g c =
    leaves_other (TellsPart (asking_of c.args.asked.now)
    (judged_at c.args.self.now.state.lines (scope_by c.args.self.now.state.group) c.args.line.now c.of-judged.result)
    (ended_by c.of-judged.result c.args.self.now.state c.args.self.now.begun)
    (told_ended (asking_of c.args.asked.now) c.args.self.now.advice
    (ended_by c.of-judged.result c.args.self.now.state c.args.self.now.begun)) c.args.from) (WalksPart (asking_of c.args.asked.now)
    (walk_of c.args.self.now) (held_cut c.args.line.now) c.args.from) g.W.Target.contents c.in-Err.fault c.args.sink.now
    c.tell_all.new.sink
    (λ text part. part_at (asking_of c.args.asked.now) c.args.line.now c.of-judged.result c.args.from (walk_of c.args.self.now)
    text c.of-judged.ensures.is part) c.in-Err.ensures.leaves

pub returns-in-Err-step-clause-leaves : goal.returns-in-Err-step-clause-leaves
returns-in-Err-step-clause-leaves g c =
    leaves_whole (WalksPart (asking_of c.args.asked.now) (walk_of c.args.self.now) (held_cut c.args.line.now) c.args.from)
    g.W.Target.contents c.in-Ok.ensures.puts.0 c.args.sink.now c.tell_all.new.sink c.in-Ok.ensures.puts.1.written
    c.in-Ok.ensures.puts.1.unfailed
    (whole_part (asking_of c.args.asked.now) c.args.line.now c.of-judged.result c.args.from c.in-Ok.told
    (walk_of c.args.self.now) c.in-Ok.ensures.puts.0 c.of-judged.ensures.is c.in-Ok.ensures.puts.2)
