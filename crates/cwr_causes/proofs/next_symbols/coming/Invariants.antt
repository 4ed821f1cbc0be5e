use Rattle.std.proofs.Common.{◌≡◌, take}
use Rattle.std.specs.List.{filter, flat_map}
use Rattle.cwr_causes.specs.Steps.Coming.{comes, inner_symbols}
use Rattle.cwr_causes.proofs.next_symbols.coming.Given as goal

abbrev pub invariant-loop-kind : goal.invariant-loop-kind
invariant-loop-kind l =
    l.found.items ≡ filter (comes l.stage) (flat_map inner_symbols (take l.kind-index l.kind-items))
