use Rattle.std.proofs.Common.{◌≡◌, ◌≤◌, ◌-◌, drop, length}
use Rattle.json.specs.Value.{members_view}
use Rattle.cwr_json.specs.Format.Forms.{told}
use Rattle.cwr_write.proofs.items.first_said.Given as goal

abbrev pub invariant-loop-at : goal.invariant-loop-at
invariant-loop-at l = record {
  from : l.from ≤ l.at;
  within : l.at ≤ length l.members.items;
  same : told (members_view (drop l.from l.members.items)) ≡ told (members_view (drop l.at l.members.items));
}

abbrev pub decreases-loop-at : goal.decreases-loop-at
decreases-loop-at l = length l.members.items - l.at
