use Rattle.std.proofs.Common.{◌≡◌, drop}
use Rattle.cwr_terminal.specs.Format.Shown.{name_length}
use Rattle.cwr_terminal.proofs.shown_lines.name_length.Given as goal

abbrev pub invariant-loop-i : goal.invariant-loop-i
invariant-loop-i l = name_length (drop l.i l.line) l.i ≡ name_length l.line 0
