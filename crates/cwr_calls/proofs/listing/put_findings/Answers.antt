use Rattle.cwr_calls.proofs.lemmas.ListedFindings.{puts_next}
use Rattle.cwr_calls.proofs.listing.put_findings.Goals as goal

pub loop-one-preserved : goal.loop-one-preserved
loop-one-preserved c =
    puts_next c.args.before c.args.found.now c.loop-one.one-index _ c.in_ok-finding_in_c.field-0 c.args.entries.now
    c.loop-one.entries c.put_finding.new.entries c.args.start c.loop-one.at c.in_ok-at.at c.loop-one-test.true
    c.in_ok-finding_in_c.ensures c.loop-one.invariant c.put_finding.ensures c.in_ok-at.ensures.1
