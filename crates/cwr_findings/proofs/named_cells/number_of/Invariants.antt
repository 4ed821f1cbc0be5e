use Rattle.std.proofs.Common.{◌≡◌, ◌≤◌, ◌+◌, ◌*◌, ◌^◌, take}
use Rattle.cwr_fields.specs.Format.Bytes.{number_of}
use Rattle.cwr_findings.proofs.named_cells.number_of.Given as goal

abbrev pub invariant-loop-byte : goal.invariant-loop-byte
invariant-loop-byte l = record {
  small : l.number + 23 ≤ 23 * 10 ^ l.byte-index;
  read : l.number ≡ number_of (take l.byte-index l.cell);
}
