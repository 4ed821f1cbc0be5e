use Rattle.std.proofs.Common.{◌≡◌, ℕ, ◌+◌, ◌<◌, ◌≤◌}
use Rattle.std.specs.Prelude.{slice_index}
use Rattle.cwr_summary.specs.Steps.Counted.{held}
use Rattle.cwr_summary.proofs.summaries.Summary.add_all.Given as goal

abbrev pub invariant-loop-i : goal.invariant-loop-i
invariant-loop-i l = record {
  added : (k : ℕ) → k < l.i → slice_index l.self.numbers k ≡ held (slice_index l.initial.self.numbers k + slice_index l.other.numbers k);
  kept : (k : ℕ) → l.i ≤ k → slice_index l.self.numbers k ≡ slice_index l.initial.self.numbers k;
}
