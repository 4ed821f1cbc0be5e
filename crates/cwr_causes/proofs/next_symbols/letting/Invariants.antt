use Rattle.std.proofs.Common.{◌≡◌, take}
use Rattle.std.specs.List.{filter}
use Rattle.cwr_causes.specs.Steps.Coming.{lets_one}
use Rattle.cwr_causes.proofs.next_symbols.letting.Given as goal

abbrev pub invariant-loop-symbol : goal.invariant-loop-symbol
invariant-loop-symbol l = l.found.items ≡ filter (lets_one l.stages l.kind) (take l.symbol-index l.symbol-items)
