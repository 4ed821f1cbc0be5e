use Rattle.std.proofs.Common.{◌≡◌, ◌+◌, ◌≤◌, drop}
use Rattle.cwr_terminal.specs.Format.Breaks.{word_columns}
use Rattle.cwr_terminal.proofs.breaks.word_columns.Given as goal

abbrev pub invariant-loop-i : goal.invariant-loop-i
invariant-loop-i l = record {
  value : l.count + word_columns l.before (drop l.i l.text) ≡ word_columns 32 l.text;
  most : l.count ≤ l.i;
}
