use Rattle.std.proofs.Common.{◌≡◌, ◌≤◌, ◌-◌, length, take}
use Rattle.std.specs.Io.KnownBytes.{Appends}
use Rattle.cwr_files.proofs.markings.write_whole.Given as goal

abbrev pub invariant-loop-written : goal.invariant-loop-written
invariant-loop-written g l = record {
  within : l.written ≤ length l.text;
  appended : Appends (g.W.Target.contents l.initial.lines) (g.W.Target.contents l.lines) (take l.written l.text);
  failures : g.W.Target.failures l.lines ≡ g.W.Target.failures l.initial.lines;
}

abbrev pub decreases-loop-written : goal.decreases-loop-written
decreases-loop-written g l = length l.text - l.written
