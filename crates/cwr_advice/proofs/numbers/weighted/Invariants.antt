use Rattle.std.proofs.Common.{◌≡◌, ◌≤◌, ◌*◌, length, take}
use Rattle.std.specs.List.{zip}
use Rattle.cwr_advice.specs.Format.Numbers.{weighted_pairs}
use Rattle.cwr_advice.proofs.numbers.weighted.Given as goal

abbrev pub invariant-loop-weight : goal.invariant-loop-weight
invariant-loop-weight l = record {
  sum : l.sum ≡ weighted_pairs (take (length l.yielded) (zip l.weights l.digits));
  small : l.sum ≤ 65025 * length l.yielded;
}
