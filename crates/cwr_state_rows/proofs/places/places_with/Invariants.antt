use Rattle.std.proofs.Common.{◌≡◌, take}
use Rattle.std.specs.List.{flat_map}
use Rattle.cwr_delivery.specs.Steps.Deliveries.{held_in}
use Rattle.cwr_state_rows.specs.Steps.HeldPlaces.{sent_places}
use Rattle.cwr_state_rows.proofs.places.places_with.Given as goal

abbrev pub invariant-loop-sent : goal.invariant-loop-sent
invariant-loop-sent l =
    l.places.items ≡ flat_map (sent_places l.states (held_in l.delivery).files) (take l.sent-index (held_in l.delivery).sent)
