use Rattle.std.proofs.Common.{ℕ, ◌≤◌, ◌<◌, List}
use Rattle.cwr_shape.specs.declared.symbols.Symbol.{Symbol}
use Rattle.cwr_shape.specs.Steps.Tallies.{IsTallyOf}
use Rattle.cwr_judge.specs.Steps.Judged.{IsGoodAt}
use Rattle.cwr_judge.proofs.judging.first_fault.Given as goal

abbrev pub invariant-loop-j : goal.invariant-loop-j
invariant-loop-j l =
    (xs : List Symbol) → IsTallyOf l.tally xs → (i : ℕ) → 2 ≤ i → i < l.j → IsGoodAt l.tally.limits xs l.line l.kind i
