use Rattle.std.proofs.Common.{◌≡◌, ◌≤◌, ◌-◌, length, take}
use Rattle.cwr_json.specs.Format.Encodings.{byte_by_byte}
use Rattle.cwr_write.proofs.records.bytes_of.Given as goal

abbrev pub invariant-loop-i : goal.invariant-loop-i
invariant-loop-i l = record { within : l.i ≤ length l.text; value : byte_by_byte l.encoding l.cell.items ≡ take l.i l.text }

abbrev pub decreases-loop-i : goal.decreases-loop-i
decreases-loop-i l = length l.text - l.i
