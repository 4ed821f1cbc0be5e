use Rattle.std.proofs.Common.{ℕ, List, ◌++◌, refl}
use Rattle.cwr_advise.specs.Steps.AdviceCounts.{summary_by}
use Rattle.cwr_lint.specs.Steps.CutShort.{IsFrontOf, TakesFromPart, TellsUpTo}
use Rattle.cwr_lint.specs.Steps.Runs.{asking_of, IsEndText, TakesFrom, TellsToEnd, sums_text, walk_of}
use Rattle.cwr_lint.proofs.lemmas.CutShort.{from_part, leaves_other, sums_part, then_leaves}
use Rattle.cwr_lint.proofs.lemmas.Running.{told_to_end}
use Rattle.cwr_lint.proofs.lemmas.TextsTold.{reads_after, reads_err, reads_put}
use Rattle.cwr_lint.proofs.linting.LintRun.tell_to_end.Goals as goal

pub returns-in-Ok-clause-tells : goal.returns-in-Ok-clause-tells
returns-in-Ok-clause-tells g c =
    reads_after (λ u. TakesFrom (asking_of c.args.asked.now) c.args.refusal.now c.args.raw
    c.args.self.now c.tell_from.new.self (g.R.Source.remaining c.args.reader.now) (g.R.Source.remaining c.tell_from.new.reader)) (λ u. IsEndText c.args.asked.now.all
    c.tell_from.new.self.advice c.tell_from.new.self.state.over c.tell_from.new.self.faults c.tell_from.new.self.findings c.tell_from.new.self.state.lines)
    (λ u. TellsToEnd (asking_of c.args.asked.now) (walk_of c.args.self.now) c.args.refusal.now
    c.args.raw (g.R.Source.remaining c.args.reader.now) (g.R.Source.remaining c.tell_from.new.reader)) (g.R.Source.remaining
    c.args.reader.now) (g.R.Source.remaining c.tell_from.new.reader) (g.R.Source.remaining
    c.tell_from.new.reader) (g.R.Source.failures c.args.reader.now) (g.R.Source.failures
    c.tell_from.new.reader) (g.R.Source.failures
    c.tell_from.new.reader) g.W.Target.contents g.W.Target.failures c.in-Ok.field-0 c.put_end.result c.args.sink.now c.tell_from.new.sink c.put_end.new.sink
    (λ text end u p q. told_to_end (asking_of c.args.asked.now) c.args.refusal.now (g.R.Source.remaining c.args.reader.now)
    (g.R.Source.remaining c.tell_from.new.reader) c.args.raw c.args.self.now c.tell_from.new.self text end c.requires.begins p q) c.in-Ok.ensures.tells
    (reads_put
    (λ u. IsEndText c.args.asked.now.all c.tell_from.new.self.advice c.tell_from.new.self.state.over c.tell_from.new.self.faults c.tell_from.new.self.findings c.tell_from.new.self.state.lines)
    (g.R.Source.remaining c.tell_from.new.reader) (g.R.Source.failures c.tell_from.new.reader) g.W.Target.contents
    g.W.Target.failures c.put_end.result c.tell_from.new.sink c.put_end.new.sink c.put_end.ensures.puts)

pub returns-in-Err-clause-tells : goal.returns-in-Err-clause-tells
returns-in-Err-clause-tells g c =
    reads_err (λ u. TakesFrom (asking_of c.args.asked.now) c.args.refusal.now c.args.raw
    c.args.self.now c.tell_from.new.self (g.R.Source.remaining c.args.reader.now) (g.R.Source.remaining c.tell_from.new.reader)) (λ u. TellsToEnd
    (asking_of c.args.asked.now) (walk_of c.args.self.now) c.args.refusal.now c.args.raw
    (g.R.Source.remaining c.args.reader.now) (g.R.Source.remaining c.tell_from.new.reader)) (g.R.Source.remaining c.args.reader.now) (g.R.Source.remaining
    c.tell_from.new.reader) (g.R.Source.failures c.args.reader.now) (g.R.Source.failures
    c.tell_from.new.reader) g.W.Target.contents g.W.Target.failures c.in-Err.fault c.args.sink.now c.tell_from.new.sink c.in-Err.ensures.tells

pub returns-in-Ok-clause-leaves : goal.returns-in-Ok-clause-leaves
returns-in-Ok-clause-leaves g c =
    let text : List ℕ = c.in-Ok.ensures.tells.0 in
    let end : List ℕ = summary_by c.args.asked.now.all c.tell_from.new.self.advice
    ++ sums_text c.tell_from.new.self.state.over c.tell_from.new.self.faults c.tell_from.new.self.findings
    c.tell_from.new.self.state.lines in
    then_leaves (IsFrontOf end) (TellsUpTo (asking_of c.args.asked.now) (walk_of c.args.self.now) c.args.refusal.now c.args.raw
    (g.R.Source.remaining c.args.reader.now)) g.W.Target.contents text c.put_end.result c.args.sink.now c.tell_from.new.sink
    c.put_end.new.sink c.in-Ok.ensures.tells.1.written c.in-Ok.ensures.tells.1.unfailed
    (λ more front. sums_part (asking_of c.args.asked.now) (walk_of c.args.self.now) c.args.refusal.now
    (g.R.Source.remaining c.args.reader.now) (g.R.Source.remaining c.tell_from.new.reader) c.args.raw text end more
    (told_to_end (asking_of c.args.asked.now) c.args.refusal.now (g.R.Source.remaining c.args.reader.now)
    (g.R.Source.remaining c.tell_from.new.reader) c.args.raw c.args.self.now c.tell_from.new.self text end c.requires.begins c.in-Ok.ensures.tells.2 refl) front) c.put_end.ensures.leaves

pub returns-in-Err-clause-leaves : goal.returns-in-Err-clause-leaves
returns-in-Err-clause-leaves g c =
    leaves_other (TakesFromPart (asking_of c.args.asked.now) c.args.refusal.now c.args.raw c.args.self.now
    (g.R.Source.remaining c.args.reader.now)) (TellsUpTo (asking_of c.args.asked.now) (walk_of c.args.self.now) c.args.refusal.now
    c.args.raw (g.R.Source.remaining c.args.reader.now)) g.W.Target.contents c.in-Err.fault c.args.sink.now
    c.tell_from.new.sink
    (λ text part. from_part (asking_of c.args.asked.now) c.args.refusal.now (g.R.Source.remaining c.args.reader.now) c.args.raw
    c.args.self.now text part) c.in-Err.ensures.leaves
