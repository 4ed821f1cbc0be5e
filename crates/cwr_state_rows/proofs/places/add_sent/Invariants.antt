use Rattle.std.proofs.Common.{◌≡◌, ◌++◌, take}
use Rattle.std.specs.List.{enumerate_from, flat_map}
use Rattle.cwr_sent.specs.Format.SentRows.{shown_in}
use Rattle.cwr_state_rows.specs.Steps.HeldPlaces.{group_places}
use Rattle.cwr_state_rows.proofs.places.add_sent.Given as goal

abbrev pub invariant-loop-group : goal.invariant-loop-group
invariant-loop-group l = record {
  place : l.g ≡ l.group-index;
  added : l.places.items ≡ l.initial.places.items
      ++ flat_map (group_places l.states l.files) (enumerate_from 1 (take l.group-index (shown_in l.sent).groups));
}
