use Rattle.std.proofs.Common.{sym, subst, add-one, arith}
use Rattle.std.specs.Prelude.{ℕ, Option}
use Rattle.cwr_judge.specs.declared.refusals.Refusal.{Refusal}
use Rattle.cwr_lines.specs.Steps.Held.{held_kind}
use Rattle.cwr_lint_lines.specs.Format.FaultsAtFields.{fields_end}
use Rattle.cwr_lint_lines.specs.Steps.JudgedLines.{IsFaultFrom, judged_at, scope_by}
use Rattle.cwr_lint.specs.Steps.Runs.{asking_of, TellsSoMany}
use Rattle.cwr_lint.proofs.lemmas.CutShort.{told_part}
use Rattle.cwr_lint.proofs.lemmas.Telling.{ToldSoFar, at_end, told_all, told_cut, told_more, told_none, told_same}
use Rattle.cwr_lint.proofs.linting.LintRun.tell.Goals as goal

pub loop-field-init : goal.loop-field-init
loop-field-init g c =
    told_none g.W.Target.contents g.W.Target.failures (asking_of c.args.asked.now)
    (judged_at c.args.self.now.state.lines (scope_by c.args.self.now.state.group) c.args.line.now c.args.judged.now) c.args.from
    c.args.sink.now c.requires.first

pub loop-field-preserved-in_default : goal.loop-field-preserved-in_default
loop-field-preserved-in_default g c =
    subst (λ (j : ℕ). ToldSoFar g.W.Target.contents g.W.Target.failures (asking_of c.args.asked.now)
    (judged_at c.args.self.now.state.lines (scope_by c.args.self.now.state.group) c.args.line.now c.args.judged.now)
    c.args.from j c.loop-field.told c.args.sink.now c.loop-field.sink) (sym (add-one c.loop-field.field))
    (told_same g.W.Target.contents g.W.Target.failures (asking_of c.args.asked.now)
    (judged_at c.args.self.now.state.lines (scope_by c.args.self.now.state.group) c.args.line.now c.args.judged.now)
    c.args.from c.loop-field.field c.loop-field.told c.args.sink.now c.loop-field.sink c.loop-field.invariant
    (subst (λ (o : Option Refusal). IsFaultFrom
    (judged_at c.args.self.now.state.lines (scope_by c.args.self.now.state.group) c.args.line.now c.args.judged.now)
    c.args.from c.loop-field.field o) c.in_default.is c.fault_at.ensures))

pub returns-in-Err-clause-puts : goal.returns-in-Err-clause-puts
returns-in-Err-clause-puts g c =
    told_cut (TellsSoMany (asking_of c.args.asked.now)
    (judged_at c.args.self.now.state.lines (scope_by c.args.self.now.state.group) c.args.line.now c.args.judged.now)
    c.args.from (fields_end (held_kind c.args.line.now))) g.W.Target.contents g.W.Target.failures (asking_of
    c.args.asked.now) (judged_at c.args.self.now.state.lines (scope_by c.args.self.now.state.group) c.args.line.now
    c.args.judged.now) c.args.from c.loop-field.field c.loop-field.told c.in-Err.ensures.puts.0 c.in-Err.stop c.args.sink.now c.loop-field.sink c.put_fault.new.sink
    c.loop-field.invariant c.in-Err.ensures.puts.1

pub loop-field-preserved : goal.loop-field-preserved
loop-field-preserved g c =
    subst (λ (j : ℕ). ToldSoFar g.W.Target.contents g.W.Target.failures (asking_of c.args.asked.now)
    (judged_at c.args.self.now.state.lines (scope_by c.args.self.now.state.group) c.args.line.now c.args.judged.now)
    c.args.from j c.saturating_add-told.result c.args.sink.now c.put_fault.new.sink) (sym (add-one c.loop-field.field))
    (told_more g.W.Target.contents g.W.Target.failures (asking_of c.args.asked.now)
    (judged_at c.args.self.now.state.lines (scope_by c.args.self.now.state.group) c.args.line.now c.args.judged.now)
    c.args.from c.loop-field.field c.loop-field.told c.saturating_add-told.result c.in-Some.fault
    c.in_default-put_fault.ensures.puts.0 c.args.sink.now c.loop-field.sink c.put_fault.new.sink
    (omega (arith, c.loop-field-test.true, c.places-field-end.type_inv)) c.saturating_add-told.ensures c.loop-field.invariant
    (subst (λ (o : Option Refusal). IsFaultFrom
    (judged_at c.args.self.now.state.lines (scope_by c.args.self.now.state.group) c.args.line.now c.args.judged.now)
    c.args.from c.loop-field.field
    o) c.in-Some.is c.fault_at.ensures) c.in_default-put_fault.ensures.puts.1 c.in_default-put_fault.ensures.puts.2)

pub returns-clause-puts : goal.returns-clause-puts
returns-clause-puts g c =
    let end = c.places-field-end.ensures c.args.line.now c.requires.judged in
    told_all g.W.Target.contents g.W.Target.failures (asking_of c.args.asked.now)
    (judged_at c.args.self.now.state.lines (scope_by c.args.self.now.state.group) c.args.line.now c.args.judged.now)
    c.args.from c.loop-field.field c.loop-field.told (fields_end (held_kind c.args.line.now)) c.args.sink.now
    c.loop-field.sink
    (at_end (held_kind c.args.line.now) c.loop-field.field c.places-field-end.result end c.loop-field-test.false
    c.loop-field.auto.field-end) c.loop-field.invariant

pub returns-in-Err-clause-leaves : goal.returns-in-Err-clause-leaves
returns-in-Err-clause-leaves g c =
    told_part g.W.Target.contents g.W.Target.failures (asking_of c.args.asked.now)
    (judged_at c.args.self.now.state.lines (scope_by c.args.self.now.state.group) c.args.line.now c.args.judged.now)
    c.args.from c.loop-field.field c.loop-field.told (fields_end (held_kind c.args.line.now)) c.in-Some.fault c.in-Err.stop
    c.args.sink.now c.loop-field.sink c.put_fault.new.sink
    (omega (arith, c.loop-field-test.true, c.places-field-end.ensures c.args.line.now c.requires.judged)) c.loop-field.invariant
    (subst (λ (o : Option Refusal). IsFaultFrom
    (judged_at c.args.self.now.state.lines (scope_by c.args.self.now.state.group) c.args.line.now c.args.judged.now)
    c.args.from c.loop-field.field o) c.in-Some.is c.fault_at.ensures) c.in-Err.ensures.leaves
