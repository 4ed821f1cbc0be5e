use Rattle.std.proofs.Common.{◌∙◌}
use Rattle.cwr_findings.proofs.lemmas.CountedRecords.{counts_nothing}
use Rattle.cwr_findings.proofs.totals.TransactionTotals.with.Goals as goal

pub returns-in_default : goal.returns-in_default
returns-in_default g c = λ rs many h. counts_nothing rs c.args.shown.now c.args.self h
    (λ q. c.in_default.not-Spu (c.kind.ensures.value ∙ q)) (λ q. c.in_default.not-Opu (c.kind.ensures.value ∙ q))
    (λ q. c.in_default.not-Swr (c.kind.ensures.value ∙ q))
    (λ q. c.in_default.not-Owr (c.kind.ensures.value ∙ q)) (λ q. c.in_default.not-Com (c.kind.ensures.value ∙ q))
