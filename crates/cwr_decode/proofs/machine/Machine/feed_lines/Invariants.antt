use Rattle.std.proofs.Common.{◌-◌, length}
use Rattle.cwr_decode.specs.Steps.Calls.{Fed}
use Rattle.cwr_decode.proofs.machine.Machine.feed_lines.Given as goal

abbrev pub invariant-loop-whole : goal.invariant-loop-whole
invariant-loop-whole l = Fed l.fn.self l.piece l.used l.self

abbrev pub decreases-loop-whole : goal.decreases-loop-whole
decreases-loop-whole l = length l.piece - l.used
