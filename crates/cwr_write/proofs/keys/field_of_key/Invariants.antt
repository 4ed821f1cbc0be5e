use Rattle.std.proofs.Common.{◌≡◌, ℕ, ◌+◌, ◌<◌, false}
use Rattle.cwr_write.specs.Steps.Filling.{names_field}
use Rattle.cwr_write.proofs.keys.field_of_key.Given as goal

abbrev pub invariant-loop-j-2 : goal.invariant-loop-j-2
invariant-loop-j-2 l = (k : ℕ) → k < l.j → names_field l.kind (k + 1) l.key ≡ false
