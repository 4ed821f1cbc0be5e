use Rattle.std.proofs.Common.{[], refl, sym, subst, ◌∙◌, inl}
use Rattle.cwr_lint_lines.specs.Steps.Cells.{held_cut}
use Rattle.cwr_lint.specs.Steps.LinesRead.{ReadsLineIf, held_raw}
use Rattle.cwr_lint.specs.Steps.CutShort.{TakesNextPart, WalksPart}
use Rattle.cwr_lint.specs.Steps.Runs.{asking_of, TakesNextIf, TakesRead, walk_of}
use Rattle.cwr_tools.specs.declared.verdicts.ToolFault.TheVariants.{Reader}
use Rattle.cwr_lint.proofs.lemmas.CutShort.{leaves_as, leaves_none, next_part}
use Rattle.cwr_lint.proofs.lemmas.Running.{next_taken}
use Rattle.cwr_lint.proofs.lemmas.TextsTold.{read_failed, reads_then}
use Rattle.cwr_lint.proofs.linting.LintRun.take_next.Goals as goal

pub returns-in-Ok-true-clause-tells : goal.returns-in-Ok-true-clause-tells
returns-in-Ok-true-clause-tells g c =
    reads_then (TakesRead (asking_of c.args.asked.now) (held_cut (held_raw c.read_after.new.self)) c.args.self.now
    c.take_read.new.self) (TakesNextIf (asking_of c.args.asked.now) c.args.before.now
    c.read_after.new.self c.args.self.now c.take_read.new.self (g.R.Source.remaining c.args.reader.now) (g.R.Source.remaining c.read_after.new.reader))
    (g.R.Source.remaining c.args.reader.now) (g.R.Source.remaining c.read_after.new.reader)
    (g.R.Source.failures c.args.reader.now) (g.R.Source.failures c.read_after.new.reader) g.W.Target.contents
    g.W.Target.failures c.take_read.result c.args.sink.now c.take_read.new.sink
    (λ more text t. next_taken (asking_of c.args.asked.now) (g.R.Source.remaining c.args.reader.now) (g.R.Source.remaining
    c.read_after.new.reader) c.args.before.now c.read_after.new.self c.args.self.now c.take_read.new.self more text c.if-self.false (sym
    c.has_ended.ensures ∙ c.if-not-has_ended.false) (subst
    (ReadsLineIf (g.R.Source.remaining c.args.reader.now) (g.R.Source.remaining c.read_after.new.reader) c.read_after.new.self)
    c.in-Ok-true.field-0-test c.in-Ok-true.ensures.read) t)
    c.in-Ok-true.ensures.taken c.in-Ok-true.ensures.failures c.take_read.ensures.puts

pub returns-in-Err-clause-tells : goal.returns-in-Err-clause-tells
returns-in-Err-clause-tells g c = (
  [],
  read_failed (g.R.Source.remaining c.args.reader.now) (g.R.Source.remaining c.read_after.new.reader)
      (g.R.Source.failures c.args.reader.now) (g.R.Source.failures c.read_after.new.reader) g.W.Target.contents g.W.Target.failures
      c.args.sink.now c.in-Err.ensures.taken c.in-Err.ensures.failures,
  tt,
)

pub returns-in-Ok-true-clause-leaves : goal.returns-in-Ok-true-clause-leaves
returns-in-Ok-true-clause-leaves g c =
    leaves_as (WalksPart (asking_of c.args.asked.now) (walk_of c.args.self.now) (held_cut (held_raw c.read_after.new.self)) 1)
    (TakesNextPart (asking_of c.args.asked.now) (g.R.Source.remaining c.args.reader.now) c.args.before.now c.args.self.now)
    g.W.Target.contents c.take_read.result c.args.sink.now c.take_read.new.sink
    (λ text part. next_part (asking_of c.args.asked.now) (g.R.Source.remaining c.args.reader.now) (g.R.Source.remaining
    c.read_after.new.reader) c.args.before.now c.read_after.new.self c.args.self.now text c.if-self.false (sym
    c.has_ended.ensures ∙ c.if-not-has_ended.false) (subst
    (ReadsLineIf (g.R.Source.remaining c.args.reader.now) (g.R.Source.remaining c.read_after.new.reader) c.read_after.new.self)
    c.in-Ok-true.field-0-test c.in-Ok-true.ensures.read) part) c.take_read.ensures.leaves

pub returns-in-Err-clause-leaves : goal.returns-in-Err-clause-leaves
returns-in-Err-clause-leaves g c =
    leaves_none (TakesNextPart (asking_of c.args.asked.now) (g.R.Source.remaining c.args.reader.now) c.args.before.now
    c.args.self.now) g.W.Target.contents Reader c.args.sink.now (inl refl)
