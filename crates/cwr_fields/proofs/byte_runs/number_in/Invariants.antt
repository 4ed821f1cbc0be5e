use Rattle.std.proofs.Common.{◌≡◌, ◌<◌, ◌^◌, true, take}
use Rattle.cwr_fields.specs.Format.Bytes.{number_of, are_digits}
use Rattle.cwr_fields.proofs.byte_runs.number_in.Given as goal

abbrev pub invariant-loop-byte : goal.invariant-loop-byte
invariant-loop-byte l = record {
  digits : are_digits (take l.byte-index l.cell) ≡ true;
  small : l.number < 10 ^ l.byte-index;
  read : l.number ≡ number_of (take l.byte-index l.cell);
}
