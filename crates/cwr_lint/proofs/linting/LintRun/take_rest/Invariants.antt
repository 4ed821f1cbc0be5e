use Rattle.std.proofs.Common.{ℕ, List}
use Rattle.std.specs.Prelude.{Ok}
use Rattle.cwr_lint.specs.Steps.Runs.{asking_of}
use Rattle.cwr_lint.specs.Steps.Puts.{ReadsAndPuts}
use Rattle.cwr_lint.proofs.lemmas.Running.{RunSoFar}
use Rattle.cwr_lint.proofs.linting.LintRun.take_rest.Given as goal

abbrev pub invariant-loop : goal.invariant-loop
invariant-loop g l =
    (text : List ℕ) × ReadsAndPuts {A = Unit {0}} (g.R.Source.remaining l.fn.reader) (g.R.Source.remaining l.reader)
    (g.R.Source.failures l.fn.reader) (g.R.Source.failures l.reader) g.W.Target.contents g.W.Target.failures text (Ok tt)
    l.fn.sink l.sink
    × RunSoFar (asking_of l.asked) (g.R.Source.remaining l.fn.reader) (g.R.Source.remaining l.reader) l.fn.first.ended l.before
    l.fn.self l.self l.counter text
