use Rattle.std.proofs.Common.{◌≡◌, take}
use Rattle.cwr_fields.specs.Format.Bytes.{has_control}
use Rattle.cwr_fields.proofs.byte_runs.has_control_one_by_one.Given as goal

abbrev pub invariant-loop-byte : goal.invariant-loop-byte
invariant-loop-byte l = l.found ≡ has_control (take l.byte-index l.text)
