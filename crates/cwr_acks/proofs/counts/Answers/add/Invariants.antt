use Rattle.std.proofs.Common.{◌≡◌, ℕ, ◌+◌, ◌-◌, ◌^◌, ◌<◌, length, min}
use Rattle.std.specs.Prelude.{slice_index}
use Rattle.cwr_acks.proofs.counts.Answers.add.Given as goal

abbrev pub invariant-loop-i : goal.invariant-loop-i
invariant-loop-i l = record {
  ten : length l.by_status ≡ 10;
  each : (k : ℕ) → k < l.i → slice_index l.by_status k ≡ min
      (slice_index l.self.by_status k + slice_index l.other.by_status k) (2 ^ 64 - 1);
}
