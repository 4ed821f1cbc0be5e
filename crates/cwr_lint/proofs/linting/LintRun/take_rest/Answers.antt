use Rattle.std.proofs.Common.{[], ◌++◌, Bool, subst, arith}
use Rattle.std.specs.Prelude.{Err, Ok}
use Rattle.cwr_lint.specs.Steps.CutShort.{TakesNextPart, TakesSome}
use Rattle.cwr_lint.specs.Steps.Runs.{asking_of, TakesNextIf}
use Rattle.cwr_lint.proofs.lemmas.CutShort.{run_part, then_cut}
use Rattle.cwr_lint.proofs.lemmas.Running.{run_ends, run_many, run_more, run_none}
use Rattle.cwr_lint.proofs.lemmas.TextsTold.{nothing, one_then, other_err, other_ok}
use Rattle.cwr_lint.proofs.linting.LintRun.take_rest.Goals as goal

pub loop-init : goal.loop-init
loop-init g c = (
  [],
  nothing (g.R.Source.remaining c.args.reader.now) (g.R.Source.failures c.args.reader.now) g.W.Target.contents
      g.W.Target.failures tt c.args.sink.now,
  run_none (asking_of c.args.asked.now)
      (g.R.Source.remaining c.args.reader.now) c.args.first c.args.self.now,
)

pub returns-in-Err-clause-tells : goal.returns-in-Err-clause-tells
returns-in-Err-clause-tells g c = (
  c.loop.invariant.0 ++ c.in-Err.ensures.tells.0,
  one_then (g.R.Source.remaining c.args.reader.now) (g.R.Source.remaining c.loop.reader)
      (g.R.Source.remaining c.take_next.new.reader) (g.R.Source.failures c.args.reader.now) (g.R.Source.failures c.loop.reader)
      (g.R.Source.failures c.take_next.new.reader) g.W.Target.contents g.W.Target.failures c.loop.invariant.0 c.in-Err.ensures.tells.0
      tt (Err c.in-Err.fault) c.args.sink.now c.loop.sink c.take_next.new.sink c.loop.invariant.1
      (other_err (g.R.Source.remaining c.loop.reader) (g.R.Source.remaining c.take_next.new.reader)
      (g.R.Source.failures c.loop.reader) (g.R.Source.failures c.take_next.new.reader) g.W.Target.contents g.W.Target.failures
      c.in-Err.ensures.tells.0 c.in-Err.fault c.loop.sink c.take_next.new.sink c.in-Err.ensures.tells.1),
  tt,
)

pub loop-preserved : goal.loop-preserved
loop-preserved g c = (
  c.loop.invariant.0 ++ c.in-Ok-true.ensures.tells.0,
  one_then (g.R.Source.remaining c.args.reader.now) (g.R.Source.remaining c.loop.reader)
      (g.R.Source.remaining c.take_next.new.reader) (g.R.Source.failures c.args.reader.now) (g.R.Source.failures c.loop.reader)
      (g.R.Source.failures c.take_next.new.reader) g.W.Target.contents g.W.Target.failures c.loop.invariant.0
      c.in-Ok-true.ensures.tells.0 tt (Ok tt) c.args.sink.now c.loop.sink c.take_next.new.sink c.loop.invariant.1
      (other_ok (g.R.Source.remaining c.loop.reader) (g.R.Source.remaining c.take_next.new.reader)
      (g.R.Source.failures c.loop.reader) (g.R.Source.failures c.take_next.new.reader) g.W.Target.contents g.W.Target.failures
      c.in-Ok-true.ensures.tells.0 c.in-Ok-true.field-0 tt c.loop.sink c.take_next.new.sink c.in-Ok-true.ensures.tells.1),
  run_more (asking_of c.args.asked.now) (g.R.Source.remaining c.args.reader.now) (g.R.Source.remaining c.loop.reader)
      (g.R.Source.remaining c.take_next.new.reader) c.args.first.ended c.loop.before c.take_next.new.raw c.args.self.now
      c.loop.self c.take_next.new.self c.loop.counter c.loop.invariant.0 c.in-Ok-true.ensures.tells.0 c.loop.invariant.2
      (subst (λ (b : Bool). TakesNextIf (asking_of c.args.asked.now) c.loop.before
      c.take_next.new.raw c.loop.self c.take_next.new.self (g.R.Source.remaining c.loop.reader) (g.R.Source.remaining c.take_next.new.reader) b
      c.in-Ok-true.ensures.tells.0) c.in-Ok-true.field-0-test c.in-Ok-true.ensures.tells.2),
)

pub returns-after-loop-clause-tells : goal.returns-after-loop-clause-tells
returns-after-loop-clause-tells g c = (
  c.loop.invariant.0,
  c.loop.invariant.1,
  run_many (asking_of c.args.asked.now) (g.R.Source.remaining c.args.reader.now)
      (g.R.Source.remaining c.loop.reader) c.args.first.ended c.loop.before c.args.self.now c.loop.self c.loop.counter
      c.loop.invariant.0 (omega (arith, c.loop-test.false)) c.loop.invariant.2,
)

pub returns-in-Ok-false-clause-tells : goal.returns-in-Ok-false-clause-tells
returns-in-Ok-false-clause-tells g c = (
  c.loop.invariant.0 ++ c.in-Ok-false.ensures.tells.0,
  one_then (g.R.Source.remaining c.args.reader.now) (g.R.Source.remaining c.loop.reader)
      (g.R.Source.remaining c.take_next.new.reader) (g.R.Source.failures c.args.reader.now) (g.R.Source.failures c.loop.reader)
      (g.R.Source.failures c.take_next.new.reader) g.W.Target.contents g.W.Target.failures c.loop.invariant.0
      c.in-Ok-false.ensures.tells.0 tt (Ok tt) c.args.sink.now c.loop.sink c.take_next.new.sink c.loop.invariant.1
      (other_ok (g.R.Source.remaining c.loop.reader) (g.R.Source.remaining c.take_next.new.reader)
      (g.R.Source.failures c.loop.reader) (g.R.Source.failures c.take_next.new.reader) g.W.Target.contents g.W.Target.failures
      c.in-Ok-false.ensures.tells.0 c.in-Ok-false.field-0 tt c.loop.sink c.take_next.new.sink c.in-Ok-false.ensures.tells.1),
  run_ends (asking_of c.args.asked.now) (g.R.Source.remaining c.args.reader.now) (g.R.Source.remaining c.loop.reader)
      (g.R.Source.remaining c.take_next.new.reader) c.args.first.ended c.loop.before c.args.self.now c.loop.self
      c.take_next.new.self c.loop.counter c.loop.invariant.0 c.in-Ok-false.ensures.tells.0 c.loop.invariant.2
      (subst (λ (b : Bool). TakesNextIf (asking_of c.args.asked.now) c.loop.before
      c.take_next.new.raw c.loop.self c.take_next.new.self (g.R.Source.remaining c.loop.reader) (g.R.Source.remaining c.take_next.new.reader) b
      c.in-Ok-false.ensures.tells.0) c.in-Ok-false.field-0-test c.in-Ok-false.ensures.tells.2),
)

pub returns-in-Err-clause-leaves : goal.returns-in-Err-clause-leaves
returns-in-Err-clause-leaves g c =
    then_cut
    (TakesNextPart (asking_of c.args.asked.now) (g.R.Source.remaining c.loop.reader) c.loop.before c.loop.self)
    (TakesSome (asking_of c.args.asked.now) (g.R.Source.remaining c.args.reader.now) c.args.first.ended c.args.self.now)
    g.W.Target.contents c.loop.invariant.0 c.in-Err.fault c.args.sink.now c.loop.sink c.take_next.new.sink
    c.loop.invariant.1.written c.loop.invariant.1.unfailed
    (λ more part. run_part (asking_of c.args.asked.now) (g.R.Source.remaining c.args.reader.now)
    (g.R.Source.remaining c.loop.reader) c.args.first.ended c.loop.before c.args.self.now c.loop.self c.loop.counter
    c.loop.invariant.0 more c.loop.invariant.2 part) c.in-Err.ensures.leaves
