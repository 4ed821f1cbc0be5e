use Rattle.std.proofs.Common.{◌≡◌, ◌++◌, take}
use Rattle.cwr_findings.proofs.lemmas.FoundByRule.{found_by}
use Rattle.cwr_findings.proofs.walk.add_findings_at.Given as goal

abbrev pub invariant-loop-rule : goal.invariant-loop-rule
invariant-loop-rule l =
    l.found.items ≡ l.initial.found.items ++ found_by l.start l.transaction l.sequence l.shown (take l.rule-index l.rule-items)
