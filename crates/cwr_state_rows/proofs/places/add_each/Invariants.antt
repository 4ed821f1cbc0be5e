use Rattle.std.proofs.Common.{◌≡◌, ◌++◌, take}
use Rattle.cwr_state_rows.specs.Steps.HeldPlaces.{each_place}
use Rattle.cwr_state_rows.proofs.places.add_each.Given as goal

abbrev pub invariant-loop-answer : goal.invariant-loop-answer
invariant-loop-answer l =
    l.places.items ≡ l.initial.places.items ++ each_place l.states l.fn.place (take l.answer-index l.answers)
