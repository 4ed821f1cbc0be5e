use Rattle.std.proofs.Common.{◌≡◌, ◌≤◌, take}
use Rattle.std.specs.List.{list_any, after_last}
use Rattle.cwr_findings.specs.Format.Findings.{is_owner}
use Rattle.cwr_advice.specs.Format.Rules.{is_territory_of}
use Rattle.cwr_advice.proofs.territories.stands_since_party.Given as goal

abbrev pub invariant-loop-left : goal.invariant-loop-left
invariant-loop-left l = record {
  within : l.left ≤ l.end;
  same : list_any (is_territory_of l.code) (after_last is_owner (take l.end l.transaction))
      ≡ list_any (is_territory_of l.code) (after_last is_owner (take l.left l.transaction));
}

abbrev pub decreases-loop-left : goal.decreases-loop-left
decreases-loop-left l = l.left
