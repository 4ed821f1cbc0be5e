use Rattle.std.proofs.Common.{subst, ◌∙◌}
use Rattle.cwr_lines.specs.Steps.Held.{HeldLine}
use Rattle.cwr_lint.specs.Format.FaultsOfLines.{IsFaultText}
use Rattle.cwr_lint_lines.specs.Steps.Cells.{held_cut}
use Rattle.cwr_lint.specs.Steps.LinesRead.{held_raw}
use Rattle.cwr_lint.specs.Steps.CutShort.{IsFirstPart, WalksPart}
use Rattle.cwr_lint.specs.Steps.Runs.{asking_of, TakesFirst, TakesLine, walk_of}
use Rattle.cwr_lint.proofs.lemmas.CutShort.{first_part, leaves_other, refusal_part, then_leaves}
use Rattle.cwr_lint.proofs.lemmas.Telling.{first_taken, with_after, with_err}
use Rattle.cwr_lint.proofs.linting.LintRun.take_first.Goals as goal

pub returns-in-Ok-clause-puts : goal.returns-in-Ok-clause-puts
returns-in-Ok-clause-puts g c =
    with_after (λ u. IsFaultText (asking_of c.args.asked.now) c.args.refusal.now) (λ u. TakesLine (asking_of c.args.asked.now)
    (held_cut c.cut-in-Ok.result) c.saturating_add-from.result c.args.self.now c.take.new.self) (λ u. TakesFirst
    (asking_of c.args.asked.now) c.args.refusal.now (held_cut (held_raw c.args.raw.now)) c.args.self.now c.take.new.self)
    g.W.Target.contents g.W.Target.failures c.in-Ok.field-0 c.take.result c.args.sink.now c.put_fault.new.sink c.take.new.sink
    (λ line beside u p q. first_taken (asking_of c.args.asked.now) c.args.refusal.now (held_cut (held_raw c.args.raw.now))
    c.saturating_add-from.result c.args.self.now c.take.new.self line beside c.saturating_add-from.ensures p
    (subst (λ (h : HeldLine). TakesLine (asking_of c.args.asked.now) (held_cut h) c.saturating_add-from.result c.args.self.now
    c.take.new.self beside) (c.cut-in-Ok.ensures ∙ c.cut_into.ensures) q)) c.in-Ok.ensures.puts c.take.ensures.puts

pub returns-in-Err-clause-puts : goal.returns-in-Err-clause-puts
returns-in-Err-clause-puts g c =
    with_err (λ u. IsFaultText (asking_of c.args.asked.now) c.args.refusal.now) (λ u. TakesFirst (asking_of c.args.asked.now)
    c.args.refusal.now (held_cut (held_raw c.args.raw.now)) c.args.self.now
    c.args.self.now) g.W.Target.contents g.W.Target.failures c.in-Err.fault c.args.sink.now c.put_fault.new.sink c.in-Err.ensures.puts

pub returns-in-Ok-clause-leaves : goal.returns-in-Ok-clause-leaves
returns-in-Ok-clause-leaves g c =
    then_leaves (WalksPart (asking_of c.args.asked.now) (walk_of c.args.self.now) (held_cut c.cut-in-Ok.result)
    c.saturating_add-from.result) (IsFirstPart (asking_of c.args.asked.now) (walk_of c.args.self.now) c.args.refusal.now
    (held_cut (held_raw c.args.raw.now))) g.W.Target.contents c.in-Ok.ensures.puts.0 c.take.result c.args.sink.now
    c.put_fault.new.sink c.take.new.sink c.in-Ok.ensures.puts.1.written c.in-Ok.ensures.puts.1.unfailed
    (λ beside part. first_part (asking_of c.args.asked.now) c.args.refusal.now (held_cut (held_raw c.args.raw.now))
    c.saturating_add-from.result (walk_of c.args.self.now) c.in-Ok.ensures.puts.0 beside c.saturating_add-from.ensures
    c.in-Ok.ensures.puts.2
    (subst (λ (h : HeldLine). WalksPart (asking_of c.args.asked.now) (walk_of c.args.self.now) (held_cut h)
    c.saturating_add-from.result beside) (c.cut-in-Ok.ensures ∙ c.cut_into.ensures) part)) c.take.ensures.leaves

pub returns-in-Err-clause-leaves : goal.returns-in-Err-clause-leaves
returns-in-Err-clause-leaves g c =
    leaves_other (IsFaultText (asking_of c.args.asked.now) c.args.refusal.now) (IsFirstPart (asking_of c.args.asked.now)
    (walk_of c.args.self.now) c.args.refusal.now (held_cut (held_raw c.args.raw.now))) g.W.Target.contents c.in-Err.fault
    c.args.sink.now c.put_fault.new.sink
    (λ text is. refusal_part (asking_of c.args.asked.now) c.args.refusal.now (held_cut (held_raw c.args.raw.now))
    (walk_of c.args.self.now) text is) c.in-Err.ensures.leaves
