use Rattle.cwr_findings.proofs.lemmas.SummedRecords.{summed_in_order}
use Rattle.cwr_findings.proofs.sums.Sums.is_work_clean.Goals as goal

pub returns-then-totals : goal.returns-then-totals
returns-then-totals c =
    λ rs n h yes. summed_in_order c.args.self.now rs n c.is_off.result c.is_off-2.result c.is_off-3.result c.wants_other.result h
    c.is_off.ensures c.if-is_off.false c.is_off-2.ensures c.if-is_off-2.false c.is_off-3.ensures c.if-is_off-3.false
    c.if-totals.true c.wants_other.ensures yes
