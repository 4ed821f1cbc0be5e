use Rattle.std.proofs.Common.{refl, inl, inr}
use Rattle.std.specs.Prelude.{Err, Ok}
use Rattle.cwr_lint_lines.specs.Steps.Cells.{held_cut}
use Rattle.cwr_lint.specs.Steps.LinesRead.{held_raw}
use Rattle.cwr_lint.specs.Steps.CutShort.{IsFirstPart, TakesFromPart, TakesSome}
use Rattle.cwr_lint.specs.Steps.Runs.{asking_of, TakesAll, TakesFirst, TakesFrom, walk_of}
use Rattle.cwr_lint.proofs.lemmas.CutShort.{leaves_other, then_leaves}
use Rattle.cwr_lint.proofs.lemmas.Running.{from_taken}
use Rattle.cwr_lint.proofs.lemmas.TextsTold.{reads_after, reads_err, reads_put}
use Rattle.cwr_lint.proofs.linting.LintRun.tell_from.Goals as goal

pub returns-in-Ok-clause-tells : goal.returns-in-Ok-clause-tells
returns-in-Ok-clause-tells g c =
    reads_after (λ u. TakesFirst (asking_of c.args.asked.now) c.args.refusal.now (held_cut (held_raw c.args.raw)) c.args.self.now
    c.take_first.new.self) (λ u. TakesAll (asking_of c.args.asked.now) c.args.raw.ended
    c.take_first.new.self c.take_rest.new.self (g.R.Source.remaining c.args.reader.now) (g.R.Source.remaining c.take_rest.new.reader))
    (λ u. TakesFrom (asking_of c.args.asked.now) c.args.refusal.now c.args.raw
    c.args.self.now c.take_rest.new.self (g.R.Source.remaining c.args.reader.now) (g.R.Source.remaining c.take_rest.new.reader)) (g.R.Source.remaining
    c.args.reader.now) (g.R.Source.remaining c.args.reader.now) (g.R.Source.remaining
    c.take_rest.new.reader) (g.R.Source.failures c.args.reader.now) (g.R.Source.failures
    c.args.reader.now) (g.R.Source.failures
    c.take_rest.new.reader) g.W.Target.contents g.W.Target.failures c.in-Ok.field-0 c.take_rest.result c.args.sink.now c.take_first.new.sink c.take_rest.new.sink
    (λ beside later u p q. from_taken (asking_of c.args.asked.now) c.args.refusal.now (g.R.Source.remaining c.args.reader.now)
    (g.R.Source.remaining c.take_rest.new.reader) c.args.raw c.args.self.now c.take_first.new.self c.take_rest.new.self beside
    later p q)
    (reads_put (λ u. TakesFirst (asking_of c.args.asked.now) c.args.refusal.now (held_cut (held_raw c.args.raw)) c.args.self.now
    c.take_first.new.self) (g.R.Source.remaining c.args.reader.now) (g.R.Source.failures
    c.args.reader.now) g.W.Target.contents g.W.Target.failures (Ok
    c.in-Ok.field-0) c.args.sink.now c.take_first.new.sink c.in-Ok.ensures.puts) c.take_rest.ensures.tells

pub returns-in-Err-clause-tells : goal.returns-in-Err-clause-tells
returns-in-Err-clause-tells g c =
    reads_err (λ u. TakesFirst (asking_of c.args.asked.now) c.args.refusal.now (held_cut (held_raw c.args.raw)) c.args.self.now
    c.take_first.new.self) (λ u. TakesFrom (asking_of c.args.asked.now) c.args.refusal.now
    c.args.raw c.args.self.now c.take_first.new.self (g.R.Source.remaining c.args.reader.now)
    (g.R.Source.remaining c.args.reader.now)) (g.R.Source.remaining c.args.reader.now) (g.R.Source.remaining c.args.reader.now) (g.R.Source.failures
    c.args.reader.now) (g.R.Source.failures
    c.args.reader.now) g.W.Target.contents g.W.Target.failures c.in-Err.fault c.args.sink.now c.take_first.new.sink
    (reads_put {A = Unit {0}} (λ u. TakesFirst (asking_of c.args.asked.now) c.args.refusal.now (held_cut (held_raw c.args.raw))
    c.args.self.now c.take_first.new.self) (g.R.Source.remaining c.args.reader.now) (g.R.Source.failures
    c.args.reader.now) g.W.Target.contents g.W.Target.failures (Err
    c.in-Err.fault) c.args.sink.now c.take_first.new.sink c.in-Err.ensures.puts)

pub returns-in-Ok-clause-leaves : goal.returns-in-Ok-clause-leaves
returns-in-Ok-clause-leaves g c =
    then_leaves (TakesSome (asking_of c.args.asked.now) (g.R.Source.remaining c.args.reader.now) c.args.raw.ended
    c.take_first.new.self) (TakesFromPart (asking_of c.args.asked.now) c.args.refusal.now c.args.raw c.args.self.now
    (g.R.Source.remaining c.args.reader.now)) g.W.Target.contents c.in-Ok.ensures.puts.0 c.take_rest.result c.args.sink.now
    c.take_first.new.sink c.take_rest.new.sink c.in-Ok.ensures.puts.1.written c.in-Ok.ensures.puts.1.unfailed
    (λ later some. inr (c.take_first.new.self, c.in-Ok.ensures.puts.0, c.in-Ok.ensures.puts.2, later, some, refl))
    c.take_rest.ensures.leaves

pub returns-in-Err-clause-leaves : goal.returns-in-Err-clause-leaves
returns-in-Err-clause-leaves g c =
    leaves_other (IsFirstPart (asking_of c.args.asked.now) (walk_of c.args.self.now) c.args.refusal.now
    (held_cut (held_raw c.args.raw))) (TakesFromPart (asking_of c.args.asked.now) c.args.refusal.now c.args.raw c.args.self.now
    (g.R.Source.remaining c.args.reader.now)) g.W.Target.contents c.in-Err.fault c.args.sink.now c.take_first.new.sink
    (λ text part. inl part) c.in-Err.ensures.leaves
