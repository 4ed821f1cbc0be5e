use Rattle.std.proofs.Common.{◌≡◌, length}
use Rattle.cwr_causes.specs.Format.LostBlocks.{later_record}
use Rattle.cwr_causes.proofs.lost_blocks.later_record.Given as goal

abbrev pub invariant-loop-rest : goal.invariant-loop-rest
invariant-loop-rest l = later_record l.here l.rest ≡ later_record l.here l.fn.line

abbrev pub decreases-loop-rest : goal.decreases-loop-rest
decreases-loop-rest l = length l.rest
