use Rattle.std.proofs.Common.{◌≡◌, take}
use Rattle.cwr_calls.specs.Format.Selected.{places_in}
use Rattle.cwr_calls.proofs.selecting.listed.Given as goal

abbrev pub invariant-loop-place : goal.invariant-loop-place
invariant-loop-place l = l.values.items ≡ places_in (take l.place-index l.places)
