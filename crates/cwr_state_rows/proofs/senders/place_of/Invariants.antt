use Rattle.std.proofs.Common.{◌≡◌, ◌≤◌, ◌+◌, ◌-◌, length, drop}
use Rattle.cwr_state_rows.specs.Steps.HeldRows.{place_of}
use Rattle.cwr_state_rows.proofs.senders.place_of.Given as goal

abbrev pub invariant-loop-place : goal.invariant-loop-place
invariant-loop-place l = record {
  within : l.place ≤ length l.sorted;
  found : place_of l.files l.new l.sorted ≡ l.place + place_of l.files l.new (drop l.place l.sorted);
}

abbrev pub decreases-loop-place : goal.decreases-loop-place
decreases-loop-place l = length l.sorted - l.place
