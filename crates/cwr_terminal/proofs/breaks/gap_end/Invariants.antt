use Rattle.std.proofs.Common.{◌≡◌, ◌≤◌, drop, length}
use Rattle.cwr_terminal.specs.Format.Breaks.{gap_end}
use Rattle.cwr_terminal.proofs.breaks.gap_end.Given as goal

abbrev pub invariant-loop-i : goal.invariant-loop-i
invariant-loop-i l = record {
  value : gap_end (drop l.i l.line) l.i l.found ≡ gap_end l.line 0 0;
  most : l.found ≤ length l.line;
}
