use Rattle.std.proofs.Common.{sym, ap, ◌∙◌}
use Rattle.std.specs.Prelude.{not}
use Rattle.cwr_findings.specs.Format.Findings.{is_a}
use Rattle.cwr_advice.specs.Format.Rules.{is_writer}
use Rattle.cwr_advice.proofs.lemmas.WriterRecords.{found, passed_over, stopped}
use Rattle.cwr_advice.proofs.writers.writer_has.Goals as goal

pub returns-then-is_writer : goal.returns-then-is_writer
returns-then-is_writer c =
    sym (c.loop-at.invariant ∙ stopped (is_a c.args.kind) (λ r. not (is_writer r)) c.args.transaction.now c.loop-at.at
    c.in-Some.shown (sym c.record.ensures.value ∙ c.in-Some.is)
    (ap not (sym c.is_writer.ensures ∙ c.if-is_writer.true)))

pub returns-then-is_of : goal.returns-then-is_of
returns-then-is_of c =
    sym (c.loop-at.invariant ∙ found (is_a c.args.kind) (λ r. not (is_writer r)) c.args.transaction.now c.loop-at.at
    c.in-Some.shown (sym c.record.ensures.value ∙ c.in-Some.is)
    (ap not (sym c.is_writer.ensures ∙ c.if-is_writer.false)) (sym c.is_of.ensures ∙ c.if-is_of.true))

pub loop-at-preserved : goal.loop-at-preserved
loop-at-preserved c =
    c.loop-at.invariant ∙ passed_over (is_a c.args.kind) (λ r. not (is_writer r)) c.args.transaction.now c.loop-at.at
    c.in-Some.shown (sym c.record.ensures.value ∙ c.in-Some.is)
    (ap not (sym c.is_writer.ensures ∙ c.if-is_writer.false)) (sym c.is_of.ensures ∙ c.if-is_of.false)
