use Rattle.std.proofs.Common.{◌≡◌, false, take}
use Rattle.std.specs.List.{list_any}
use Rattle.cwr_findings.specs.Steps.Walks.{is_publisher}
use Rattle.cwr_findings.proofs.publishers.has_publisher.Given as goal

abbrev pub invariant-loop-i : goal.invariant-loop-i
invariant-loop-i l = list_any (is_publisher l.number) (take l.i l.transaction) ≡ false
