use Rattle.std.proofs.Common.{List, take, sym, subst, ◌∙◌}
use Rattle.cwr_lines.specs.Format.Records.{RecordValue}
use Rattle.cwr_findings.specs.Steps.Walks.{AreTotals}
use Rattle.cwr_findings.proofs.lemmas.OneMore.{take_more, length_taken}
use Rattle.cwr_findings.proofs.totals.TransactionTotals.of.Goals as goal

pub loop-sequence-preserved : goal.loop-sequence-preserved
loop-sequence-preserved c =
    let there = sym c.record.ensures.value ∙ c.in-Some.is in
    subst (λ (l : List RecordValue). AreTotals l c.with-totals.result)
    (sym (take_more c.args.transaction.now c.loop-sequence.sequence c.in-Some.shown there))
    (c.with-totals.ensures (take c.loop-sequence.sequence c.args.transaction.now)
    (length_taken c.args.transaction.now c.loop-sequence.sequence c.in-Some.shown there) c.loop-sequence.invariant)
