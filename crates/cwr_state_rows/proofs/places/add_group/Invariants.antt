use Rattle.std.proofs.Common.{◌≡◌, ◌≤◌, ◌-◌, ◌++◌, length, take}
use Rattle.std.specs.List.{enumerate_from, flat_map}
use Rattle.cwr_state_rows.specs.Steps.HeldPlaces.{transaction_places}
use Rattle.cwr_state_rows.proofs.places.add_group.Given as goal

abbrev pub invariant-loop-facts : goal.invariant-loop-facts
invariant-loop-facts l = record {
  within : l.t ≤ length l.group.facts;
  added : l.places.items ≡ l.initial.places.items
      ++ flat_map (transaction_places l.states l.files l.fn.g l.group.answers) (enumerate_from 0 (take l.t l.group.facts));
}

abbrev pub decreases-loop-facts : goal.decreases-loop-facts
decreases-loop-facts l = length l.group.facts - l.t
