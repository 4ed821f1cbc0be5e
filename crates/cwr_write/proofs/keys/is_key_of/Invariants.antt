use Rattle.std.proofs.Common.{◌≡◌, ℕ, ◌<◌, get_or}
use Rattle.cwr_json.specs.Format.Forms.{key_byte}
use Rattle.cwr_write.proofs.keys.is_key_of.Given as goal

abbrev pub invariant-loop-i : goal.invariant-loop-i
invariant-loop-i l = (k : ℕ) → k < l.i → get_or l.key k 0 ≡ key_byte (get_or l.name k 0)
