use Rattle.std.proofs.Common.{[]}
use Rattle.cwr_lint.specs.Steps.CutShort.{TellsLastUpTo, TellsUpTo}
use Rattle.cwr_lint.specs.Steps.Runs.{asking_of, TellsRun, TellsToEnd, walk_of}
use Rattle.cwr_lint.proofs.lemmas.CutShort.{leaves_read, unread}
use Rattle.cwr_lint.proofs.lemmas.TextsTold.{read_failed, read_first}
use Rattle.cwr_lint.proofs.linting.LintRun.run_on.Goals as goal

pub returns-in-Ok-clause-tells : goal.returns-in-Ok-clause-tells
returns-in-Ok-clause-tells g c =
    read_first (λ u. TellsToEnd (asking_of c.args.asked.now) (walk_of c.args.self.now) c.args.refusal.now
    c.in-Ok.raw (g.R.Source.remaining c.of_last.new.reader) (g.R.Source.remaining c.tell_to_end.new.reader)) (λ u. TellsRun
    (asking_of c.args.asked.now) (walk_of c.args.self.now) c.args.refusal.now c.args.last.now.bytes
    (g.R.Source.remaining c.args.reader.now) (g.R.Source.remaining c.tell_to_end.new.reader)) (g.R.Source.remaining
    c.args.reader.now) (g.R.Source.remaining c.of_last.new.reader) (g.R.Source.remaining
    c.tell_to_end.new.reader) (g.R.Source.failures c.args.reader.now) (g.R.Source.failures
    c.of_last.new.reader) (g.R.Source.failures
    c.tell_to_end.new.reader) g.W.Target.contents g.W.Target.failures c.tell_to_end.result c.args.sink.now c.tell_to_end.new.sink
    (λ u text t. record {
      between = (g.R.Source.remaining c.of_last.new.reader);
      raw = c.in-Ok.raw;
      held = c.in-Ok.ensures.held;
      read = c.in-Ok.ensures.read;
      tells = t;
    }) c.in-Ok.ensures.taken c.in-Ok.ensures.failures c.tell_to_end.ensures.tells

pub returns-in-Err-clause-tells : goal.returns-in-Err-clause-tells
returns-in-Err-clause-tells g c = (
  [],
  read_failed (g.R.Source.remaining c.args.reader.now) (g.R.Source.remaining c.of_last.new.reader)
      (g.R.Source.failures c.args.reader.now) (g.R.Source.failures c.of_last.new.reader) g.W.Target.contents g.W.Target.failures
      c.args.sink.now c.in-Err.ensures.taken c.in-Err.ensures.failures,
  tt,
)

pub returns-in-Ok-clause-leaves : goal.returns-in-Ok-clause-leaves
returns-in-Ok-clause-leaves g c =
    leaves_read (TellsUpTo (asking_of c.args.asked.now) (walk_of c.args.self.now) c.args.refusal.now c.in-Ok.raw
    (g.R.Source.remaining c.of_last.new.reader)) (TellsLastUpTo (asking_of c.args.asked.now) (walk_of c.args.self.now)
    c.args.refusal.now c.args.last.now.bytes (g.R.Source.remaining c.args.reader.now)) g.W.Target.contents c.tell_to_end.result
    c.args.sink.now c.tell_to_end.new.sink
    (λ text tells. record {
      between = (g.R.Source.remaining c.of_last.new.reader);
      raw = c.in-Ok.raw;
      held = c.in-Ok.ensures.held;
      read = c.in-Ok.ensures.read;
      tells = tells;
    }) c.tell_to_end.ensures.leaves

pub returns-in-Err-clause-leaves : goal.returns-in-Err-clause-leaves
returns-in-Err-clause-leaves g c =
    unread (TellsLastUpTo (asking_of c.args.asked.now) (walk_of c.args.self.now) c.args.refusal.now c.args.last.now.bytes
    (g.R.Source.remaining c.args.reader.now)) g.W.Target.contents c.args.sink.now
