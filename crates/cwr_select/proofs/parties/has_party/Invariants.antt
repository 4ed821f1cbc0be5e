use Rattle.std.proofs.Common.{◌≡◌, ◌≤◌, ◌-◌, false, length, take}
use Rattle.std.specs.List.{list_any}
use Rattle.cwr_select.specs.Format.Criteria.{names_party}
use Rattle.cwr_select.proofs.parties.has_party.Given as goal

abbrev pub invariant-records : goal.invariant-records
invariant-records l = record {
  counted : l.count ≡ length l.transaction;
  within : l.i ≤ l.count;
  none : list_any (names_party l.number) (take l.i l.transaction) ≡ false;
}

abbrev pub decreases-records : goal.decreases-records
decreases-records l = l.count - l.i
