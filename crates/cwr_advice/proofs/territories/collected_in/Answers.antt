use Rattle.std.proofs.Common.{List, take, sym, subst, ◌∙◌, arith}
use Rattle.cwr_lines.specs.Format.Records.{RecordValue}
use Rattle.cwr_findings.proofs.lemmas.OneMore.{take_more}
use Rattle.cwr_advice.specs.Steps.Facts.{AreCollectedIn}
use Rattle.cwr_advice.proofs.lemmas.BegunChains.{none_within}
use Rattle.cwr_advice.proofs.lemmas.SinceParty.{same_first}
use Rattle.cwr_advice.proofs.territories.collected_in.Goals as goal

pub loop-at-preserved : goal.loop-at-preserved
loop-at-preserved c =
    subst (λ (l : List RecordValue). AreCollectedIn c.args.code.now l c.with_collected-collected.result)
    (sym (take_more c.args.transaction.now c.loop-at.at c.in-Some.shown (sym c.record.ensures.value ∙ c.in-Some.is)))
    (c.with_collected-collected.ensures (take c.loop-at.at c.args.transaction.now) c.loop-at.invariant)

pub returns-in_default : goal.returns-in_default
returns-in_default c =
    let end = none_within c.args.transaction.now c.loop-at.at (sym c.in_default.is ∙ c.record.ensures.value) in
    subst (λ (l : List RecordValue). AreCollectedIn c.args.code.now l c.loop-at.collected)
    (sym (same_first c.args.transaction.now c.loop-at.at c.args.end end (omega (arith, c.loop-at-test.true))))
    c.loop-at.invariant
