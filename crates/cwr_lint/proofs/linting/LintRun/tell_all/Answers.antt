use Rattle.std.proofs.Common.{◌≡◌, ℕ, List}
use Rattle.cwr_lines.specs.Steps.Held.{held_kind}
use Rattle.cwr_lint_lines.specs.Format.FaultsAtFields.{fields_end}
use Rattle.cwr_lint.specs.Format.FaultsOfLines.{ended_lines}
use Rattle.cwr_lint.specs.Steps.Walks.{ended_by, told_ended}
use Rattle.cwr_lint_lines.specs.Steps.JudgedLines.{judged_at, scope_by}
use Rattle.cwr_lint.specs.Steps.Runs.{asking_of, TellsOfLine, TellsSoMany}
use Rattle.cwr_lint.specs.Steps.CutShort.{IsNoneOr, TellsPart, TellsSome}
use Rattle.cwr_lint.proofs.lemmas.CutShort.{faults_part, findings_part, leaves_other, then_leaves}
use Rattle.cwr_lint.proofs.lemmas.Telling.{findings_then, with_after, with_err}
use Rattle.cwr_lint.proofs.linting.LintRun.tell_all.Goals as goal

pub returns-in-Ok-clause-puts : goal.returns-in-Ok-clause-puts
returns-in-Ok-clause-puts g c =
    with_after (λ (u : _) (it : List ℕ). it ≡ ended_lines (asking_of c.args.asked.now)
    (told_ended (asking_of c.args.asked.now) c.args.self.now.advice
    (ended_by c.args.judged.now c.args.self.now.state c.args.self.now.begun))
    (ended_by c.args.judged.now c.args.self.now.state c.args.self.now.begun)) (TellsSoMany (asking_of c.args.asked.now)
    (judged_at c.args.self.now.state.lines (scope_by c.args.self.now.state.group) c.args.line.now c.args.judged.now)
    c.args.from (fields_end (held_kind c.args.line.now)))
    (TellsOfLine (asking_of c.args.asked.now)
    (judged_at c.args.self.now.state.lines (scope_by c.args.self.now.state.group) c.args.line.now c.args.judged.now)
    (ended_by c.args.judged.now c.args.self.now.state c.args.self.now.begun)
    (told_ended (asking_of c.args.asked.now) c.args.self.now.advice
    (ended_by c.args.judged.now c.args.self.now.state c.args.self.now.begun))
    c.args.from) g.W.Target.contents g.W.Target.failures c.in-Ok.field-0 c.tell.result c.args.sink.now c.put_ended.new.sink c.tell.new.sink
    (λ found lines count p q. findings_then (asking_of c.args.asked.now) c.args.self.now.state.lines
    (scope_by c.args.self.now.state.group) c.args.line.now c.args.judged.now
    (ended_by c.args.judged.now c.args.self.now.state c.args.self.now.begun)
    (told_ended (asking_of c.args.asked.now) c.args.self.now.advice
    (ended_by c.args.judged.now c.args.self.now.state c.args.self.now.begun)) c.args.from found lines count p q)
    c.in-Ok.ensures.puts c.tell.ensures.puts

pub returns-in-Err-clause-puts : goal.returns-in-Err-clause-puts
returns-in-Err-clause-puts g c =
    with_err (λ (u : _) (it : List ℕ). it ≡ ended_lines (asking_of c.args.asked.now)
    (told_ended (asking_of c.args.asked.now) c.args.self.now.advice
    (ended_by c.args.judged.now c.args.self.now.state c.args.self.now.begun))
    (ended_by c.args.judged.now c.args.self.now.state c.args.self.now.begun)) (TellsOfLine (asking_of c.args.asked.now)
    (judged_at c.args.self.now.state.lines (scope_by c.args.self.now.state.group) c.args.line.now c.args.judged.now)
    (ended_by c.args.judged.now c.args.self.now.state c.args.self.now.begun)
    (told_ended (asking_of c.args.asked.now) c.args.self.now.advice
    (ended_by c.args.judged.now c.args.self.now.state c.args.self.now.begun))
    c.args.from) g.W.Target.contents g.W.Target.failures c.in-Err.fault c.args.sink.now c.put_ended.new.sink c.in-Err.ensures.puts

pub returns-in-Ok-clause-leaves : goal.returns-in-Ok-clause-leaves
returns-in-Ok-clause-leaves g c =
    then_leaves (TellsSome (asking_of c.args.asked.now)
    (judged_at c.args.self.now.state.lines (scope_by c.args.self.now.state.group) c.args.line.now c.args.judged.now)
    c.args.from (fields_end (held_kind c.args.line.now))) (TellsPart (asking_of c.args.asked.now)
    (judged_at c.args.self.now.state.lines (scope_by c.args.self.now.state.group) c.args.line.now c.args.judged.now)
    (ended_by c.args.judged.now c.args.self.now.state c.args.self.now.begun)
    (told_ended (asking_of c.args.asked.now) c.args.self.now.advice
    (ended_by c.args.judged.now c.args.self.now.state c.args.self.now.begun)) c.args.from) g.W.Target.contents c.in-Ok.ensures.puts.0
    c.tell.result c.args.sink.now c.put_ended.new.sink c.tell.new.sink c.in-Ok.ensures.puts.1.written c.in-Ok.ensures.puts.1.unfailed
    (λ lines some. faults_part (asking_of c.args.asked.now)
    (judged_at c.args.self.now.state.lines (scope_by c.args.self.now.state.group) c.args.line.now c.args.judged.now)
    (ended_by c.args.judged.now c.args.self.now.state c.args.self.now.begun)
    (told_ended (asking_of c.args.asked.now) c.args.self.now.advice
    (ended_by c.args.judged.now c.args.self.now.state c.args.self.now.begun)) c.args.from c.in-Ok.ensures.puts.0 lines
    c.in-Ok.ensures.puts.2 some) c.tell.ensures.leaves

pub returns-in-Err-clause-leaves : goal.returns-in-Err-clause-leaves
returns-in-Err-clause-leaves g c =
    leaves_other (IsNoneOr (ended_lines (asking_of c.args.asked.now) (told_ended (asking_of c.args.asked.now) c.args.self.now.advice
    (ended_by c.args.judged.now c.args.self.now.state c.args.self.now.begun))
    (ended_by c.args.judged.now c.args.self.now.state c.args.self.now.begun)))
    (TellsPart (asking_of c.args.asked.now)
    (judged_at c.args.self.now.state.lines (scope_by c.args.self.now.state.group) c.args.line.now c.args.judged.now)
    (ended_by c.args.judged.now c.args.self.now.state c.args.self.now.begun)
    (told_ended (asking_of c.args.asked.now) c.args.self.now.advice
    (ended_by c.args.judged.now c.args.self.now.state c.args.self.now.begun)) c.args.from) g.W.Target.contents c.in-Err.fault
    c.args.sink.now c.put_ended.new.sink
    (λ text none. findings_part (asking_of c.args.asked.now)
    (judged_at c.args.self.now.state.lines (scope_by c.args.self.now.state.group) c.args.line.now c.args.judged.now)
    (ended_by c.args.judged.now c.args.self.now.state c.args.self.now.begun)
    (told_ended (asking_of c.args.asked.now) c.args.self.now.advice
    (ended_by c.args.judged.now c.args.self.now.state c.args.self.now.begun)) c.args.from text none) c.in-Err.ensures.leaves
