use Rattle.std.proofs.Common.{◌≡◌, ◌++◌, replicate}
use Rattle.cwr_calls.proofs.codes.push_spaces.Given as goal

abbrev pub invariant-loop : goal.invariant-loop
invariant-loop l = l.line.items ≡ l.initial.line.items ++ replicate l.counter 32
