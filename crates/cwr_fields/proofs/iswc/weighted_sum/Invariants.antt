use Rattle.std.proofs.Common.{◌≡◌, ◌≤◌, ◌*◌}
use Rattle.cwr_fields.proofs.lemmas.Weights.{weight}
use Rattle.cwr_fields.proofs.iswc.weighted_sum.Given as goal

abbrev pub invariant-loop-at : goal.invariant-loop-at
invariant-loop-at l = record {
  few : l.at ≤ 10;
  weighted_sum : l.sum ≡ weight l.at l.digits;
  small : l.sum ≤ 81 * l.at;
}
