use Rattle.cwr_lint.specs.Steps.Runs.{asking_of}
use Rattle.cwr_lint_lines.specs.Steps.JudgedLines.{judged_at, scope_by}
use Rattle.cwr_lint.proofs.lemmas.Telling.{ToldSoFar}
use Rattle.cwr_lint.proofs.linting.LintRun.tell.Given as goal

abbrev pub invariant-loop-field : goal.invariant-loop-field
invariant-loop-field g l =
    ToldSoFar g.W.Target.contents g.W.Target.failures (asking_of l.asked)
    (judged_at l.self.state.lines (scope_by l.self.state.group) l.line l.judged) l.from l.field l.told l.fn.sink l.sink
