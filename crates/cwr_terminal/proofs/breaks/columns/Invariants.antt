use Rattle.std.proofs.Common.{◌≡◌, ◌≤◌, sum_by, take}
use Rattle.cwr_terminal.specs.Format.Breaks.{column_of}
use Rattle.cwr_terminal.proofs.breaks.columns.Given as goal

abbrev pub invariant-loop-b : goal.invariant-loop-b
invariant-loop-b l = record {
  value : l.count ≡ sum_by column_of (take l.b-index l.text);
  most : l.count ≤ l.b-index;
}
