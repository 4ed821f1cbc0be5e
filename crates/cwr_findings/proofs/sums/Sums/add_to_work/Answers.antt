use Rattle.std.proofs.Common.{sym, ap, subst}
use Rattle.cwr_findings.specs.declared.sums.Sums.{Sums}
use Rattle.cwr_findings.specs.declared.totals.TransactionTotals.{TransactionTotals}
use Rattle.cwr_findings.specs.Steps.Walks.{AreTotals}
use Rattle.cwr_findings.proofs.lemmas.SummedRecords.{sums_more}
use Rattle.cwr_findings.proofs.sums.Sums.add_to_work.Goals as goal

pub returns : goal.returns
returns g c = λ rs h yes.
    let kept = c.keep_number.ensures rs h c.if-not-keep_number.false in
    sums_more c.args.self.now c.keep_number.new.self rs c.args.shown.now c.with-self.result h kept
    (c.with-self.ensures rs (sym h.counted)
    (subst (λ (x : TransactionTotals). AreTotals rs x) (sym (ap (λ (s : Sums). s.totals) kept.others)) h.totals))
    (c.may_break.ensures rs h c.if-may_break.false)
