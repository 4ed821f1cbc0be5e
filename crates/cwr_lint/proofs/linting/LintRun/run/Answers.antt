use Rattle.std.proofs.Common.{[]}
use Rattle.cwr_causes.proofs.lemmas.TakenPieces.{takes_none}
use Rattle.cwr_lint.specs.Steps.CutShort.{TellsLastUpTo}
use Rattle.cwr_lint.specs.Steps.Runs.{asking_of, TellsRun, walk_of}
use Rattle.cwr_lint.proofs.lemmas.CutShort.{unread, unread_as}
use Rattle.cwr_lint.proofs.lemmas.LastRead.{reads_kept}
use Rattle.cwr_lint.proofs.lemmas.TextsTold.{read_failed, read_first}
use Rattle.cwr_lint.proofs.linting.LintRun.run.Goals as goal

pub returns-in-Ok-clause-tells : goal.returns-in-Ok-clause-tells
returns-in-Ok-clause-tells g c =
    let left = g.R.Source.remaining c.args.reader.now in
    let mid = g.R.Source.remaining c.peek.new.reader in
    let after = g.R.Source.remaining c.run_on.new.reader in
    read_first (λ u. TellsRun (asking_of c.args.asked.now) (walk_of c.args.self.now) c.args.refusal.now c.args.last.now.bytes mid after)
    (λ u. TellsRun (asking_of c.args.asked.now) (walk_of c.args.self.now) c.args.refusal.now c.args.last.now.bytes left after) left
    mid after (g.R.Source.failures c.args.reader.now) (g.R.Source.failures c.peek.new.reader) (g.R.Source.failures
    c.run_on.new.reader) g.W.Target.contents g.W.Target.failures c.run_on.result c.args.sink.now c.run_on.new.sink
    (λ u text t. record {
      between = t.between;
      raw = t.raw;
      held = t.held;
      read = reads_kept left mid t.between c.args.last.now.bytes t.raw c.peek.ensures.kept t.read;
      tells = t.tells;
    }) (takes_none left mid c.peek.ensures.kept) c.in-Ok.ensures.failures c.run_on.ensures.tells

pub returns-in-Err-clause-tells : goal.returns-in-Err-clause-tells
returns-in-Err-clause-tells g c =
    let left = g.R.Source.remaining c.args.reader.now in
    let mid = g.R.Source.remaining c.peek.new.reader in (
      [],
      read_failed left mid (g.R.Source.failures c.args.reader.now) (g.R.Source.failures c.peek.new.reader) g.W.Target.contents
          g.W.Target.failures c.args.sink.now (takes_none left mid c.peek.ensures.kept) c.in-Err.ensures.failures,
      tt,
    )

pub returns-in-Ok-clause-leaves : goal.returns-in-Ok-clause-leaves
returns-in-Ok-clause-leaves g c =
    let left = g.R.Source.remaining c.args.reader.now in
    let mid = g.R.Source.remaining c.peek.new.reader in
    unread_as (TellsLastUpTo (asking_of c.args.asked.now) (walk_of c.args.self.now) c.args.refusal.now c.args.last.now.bytes mid)
    (TellsLastUpTo (asking_of c.args.asked.now) (walk_of c.args.self.now) c.args.refusal.now c.args.last.now.bytes left)
    g.W.Target.contents c.run_on.result c.args.sink.now c.run_on.new.sink
    (λ text t. record {
      between = t.between;
      raw = t.raw;
      held = t.held;
      read = reads_kept left mid t.between c.args.last.now.bytes t.raw c.peek.ensures.kept t.read;
      tells = t.tells;
    }) c.run_on.ensures.leaves

pub returns-in-Err-clause-leaves : goal.returns-in-Err-clause-leaves
returns-in-Err-clause-leaves g c =
    unread (TellsLastUpTo (asking_of c.args.asked.now) (walk_of c.args.self.now) c.args.refusal.now c.args.last.now.bytes
    (g.R.Source.remaining c.args.reader.now)) g.W.Target.contents c.args.sink.now
