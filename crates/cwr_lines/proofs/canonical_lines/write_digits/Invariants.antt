use Rattle.std.proofs.Common.{◌≡◌, ◌≤◌, ◌++◌, length, drop, take, replicate}
use Rattle.cwr_fields.specs.Format.Bytes.{digits}
use Rattle.cwr_lines.proofs.canonical_lines.write_digits.Given as goal

abbrev pub invariant-loop-at : goal.invariant-loop-at
invariant-loop-at l = record {
  within : l.at ≤ length l.cell;
  written : digits l.at l.rest ++ drop l.at l.cell ≡ digits (length l.cell) l.fn.number;
  zeros : take l.at l.cell ≡ replicate l.at 48;
}

abbrev pub decreases-loop-at : goal.decreases-loop-at
decreases-loop-at l = l.at
