use Rattle.std.proofs.Common.{List, take, sym, subst, ◌∙◌}
use Rattle.cwr_lines.specs.Format.Records.{RecordValue}
use Rattle.cwr_findings.proofs.lemmas.OneMore.{take_more}
use Rattle.cwr_advice.specs.Steps.Facts.{AreFacts}
use Rattle.cwr_advice.proofs.facts.Facts.of.Goals as goal

pub loop-sequence-preserved : goal.loop-sequence-preserved
loop-sequence-preserved c =
    let there = sym c.record.ensures.value ∙ c.in-Some.is in
    subst (λ (l : List RecordValue). AreFacts l c.with-facts.result)
    (sym (take_more c.args.transaction.now c.loop-sequence.sequence c.in-Some.shown there))
    (c.with-facts.ensures (take c.loop-sequence.sequence c.args.transaction.now) c.loop-sequence.invariant)
