use Rattle.std.proofs.Common.{◌≡◌, ◌<◌, ◌^◌, true, take}
use Rattle.cwr_fields.specs.Format.Bytes.{number_of, are_digits}
use Rattle.cwr_lint_lines.proofs.cells.number_in.Given as goal

abbrev pub invariant-loop-digit : goal.invariant-loop-digit
invariant-loop-digit l = record {
  digits : are_digits (take l.digit-index l.cell) ≡ true;
  small : l.number < 10 ^ l.digit-index;
  read : l.number ≡ number_of (take l.digit-index l.cell);
}
