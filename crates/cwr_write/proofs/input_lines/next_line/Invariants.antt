use Rattle.std.proofs.Common.{◌≡◌, ◌≤◌, length}
use Rattle.cwr_write.specs.Steps.Lines.{SoFar}
use Rattle.cwr_write.proofs.input_lines.next_line.Given as goal

abbrev pub invariant-loop : goal.invariant-loop
invariant-loop g l = record {
  failures : g.R.Source.failures l.reader ≡ g.R.Source.failures l.initial.reader;
  short : length l.line.items ≤ l.fn.most;
  so_far : SoFar (g.R.Source.remaining l.initial.reader) (g.R.Source.remaining l.reader) l.line.items;
}
