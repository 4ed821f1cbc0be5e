use Rattle.std.proofs.Common.{subst, ◌∙◌}
use Rattle.std.specs.Prelude.{true}
use Rattle.cwr_lines.specs.Steps.Held.{HeldLine}
use Rattle.cwr_lint_lines.specs.Steps.Cells.{held_cut}
use Rattle.cwr_lint.specs.Steps.LinesRead.{held_raw}
use Rattle.cwr_lint.specs.Steps.CutShort.{WalksPart}
use Rattle.cwr_lint.specs.Steps.Runs.{asking_of, TakesLine, TakesRead, walk_of}
use Rattle.cwr_lint.proofs.lemmas.CutShort.{leaves_other}
use Rattle.cwr_lint.proofs.lemmas.Telling.{with_err, with_other}
use Rattle.cwr_lint.proofs.linting.LintRun.take_read.Goals as goal

pub returns-in-Ok-clause-puts : goal.returns-in-Ok-clause-puts
returns-in-Ok-clause-puts g c =
    with_other (λ u. TakesLine (asking_of c.args.asked.now) (held_cut c.cut.result) 1 c.args.self.now c.take.new.self)
    (TakesRead (asking_of c.args.asked.now) (held_cut (held_raw c.args.raw.now)) c.args.self.now c.take.new.self)
    g.W.Target.contents g.W.Target.failures c.in-Ok.field-0 true c.args.sink.now c.take.new.sink
    (λ text t. subst
    (λ (h : HeldLine). TakesLine (asking_of c.args.asked.now) (held_cut h) 1 c.args.self.now c.take.new.self text)
    (c.cut.ensures ∙ c.cut_into.ensures) t) c.in-Ok.ensures.puts

pub returns-in-Err-clause-puts : goal.returns-in-Err-clause-puts
returns-in-Err-clause-puts g c =
    with_err (λ u. TakesLine (asking_of c.args.asked.now) (held_cut c.cut.result) 1 c.args.self.now c.take.new.self)
    (TakesRead (asking_of c.args.asked.now) (held_cut (held_raw c.args.raw.now)) c.args.self.now c.take.new.self)
    g.W.Target.contents g.W.Target.failures c.in-Err.fault c.args.sink.now c.take.new.sink c.in-Err.ensures.puts

pub returns-in-Err-clause-leaves : goal.returns-in-Err-clause-leaves
returns-in-Err-clause-leaves g c =
    leaves_other (WalksPart (asking_of c.args.asked.now) (walk_of c.args.self.now) (held_cut c.cut.result) 1)
    (WalksPart (asking_of c.args.asked.now) (walk_of c.args.self.now) (held_cut (held_raw c.args.raw.now)) 1) g.W.Target.contents
    c.in-Err.fault c.args.sink.now c.take.new.sink
    (λ text part. subst
    (λ (h : HeldLine). WalksPart (asking_of c.args.asked.now) (walk_of c.args.self.now) (held_cut h) 1 text)
    (c.cut.ensures ∙ c.cut_into.ensures) part) c.in-Err.ensures.leaves
