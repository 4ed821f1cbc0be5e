use Rattle.std.proofs.Common.{◌≡◌, ◌≤◌, ◌-◌, ℕ, List, length, take}
use Rattle.cwr_json.specs.Format.Encodings.{byte_by_byte}
use Rattle.cwr_write.specs.Format.Faults.{AreBytes}
use Rattle.cwr_write.proofs.records.are_bytes.Given as goal

abbrev pub invariant-loop-i : goal.invariant-loop-i
invariant-loop-i l = record {
  within : l.i ≤ length l.text;
  cell : List ℕ;
  bytes : AreBytes cell;
  value : byte_by_byte l.encoding cell ≡ take l.i l.text;
}

abbrev pub decreases-loop-i : goal.decreases-loop-i
decreases-loop-i l = length l.text - l.i
