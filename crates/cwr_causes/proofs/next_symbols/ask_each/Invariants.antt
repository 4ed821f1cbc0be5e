use Rattle.std.proofs.Common.{◌≡◌, ◌++◌, take}
use Rattle.std.specs.List.{filter}
use Rattle.cwr_causes.specs.Steps.Coming.{comes}
use Rattle.cwr_causes.proofs.next_symbols.ask_each.Given as goal

abbrev pub invariant-loop-symbol : goal.invariant-loop-symbol
invariant-loop-symbol l =
    l.found.items ≡ l.fn.found.items ++ filter (comes l.stage) (take l.symbol-index l.symbols)
