use Rattle.std.proofs.Common.{◌≡◌, ◌+◌, ◌*◌, ◌≤◌, ◌++◌, length, drop}
use Rattle.cwr_terminal.specs.Format.Breaks.{broken}
use Rattle.cwr_terminal.proofs.breaks.push_broken.Given as goal

abbrev pub invariant-loop-i : goal.invariant-loop-i
invariant-loop-i l = record {
  value : l.made.items ++ broken l.indent l.width l.column l.before (drop l.i l.text)
      ≡ l.fn.made.items ++ broken l.indent l.width l.begun 32 l.text;
  len : length l.made.items ≤ length l.fn.made.items + 49 * l.i;
  column : l.column ≤ l.begun + 49 * l.i;
}
