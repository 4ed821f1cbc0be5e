use Rattle.std.proofs.Common.{◌≡◌, ◌<◌, ℕ, length, slice_index}
use Rattle.cwr_files.specs.Format.Fronts.{byte_of_set}
use Rattle.cwr_files.proofs.fronts.cell_of.Given as goal

abbrev pub invariant-loop-i : goal.invariant-loop-i
invariant-loop-i l = record {
  set : (k : ℕ) → k < l.i → slice_index l.cell k ≡ byte_of_set l.line k;
  len : length l.cell ≡ 15;
}
