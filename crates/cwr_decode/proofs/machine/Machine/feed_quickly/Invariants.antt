use Rattle.std.proofs.Common.{◌-◌, length}
use Rattle.cwr_decode.specs.Steps.Calls.{Fed}
use Rattle.cwr_decode.proofs.machine.Machine.feed_quickly.Given as goal

abbrev pub invariant-loop-used : goal.invariant-loop-used
invariant-loop-used l = Fed l.fn.self l.piece l.used l.self

abbrev pub decreases-loop-used : goal.decreases-loop-used
decreases-loop-used l = length l.piece - l.used
