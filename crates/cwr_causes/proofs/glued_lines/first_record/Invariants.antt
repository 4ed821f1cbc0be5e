use Rattle.std.proofs.Common.{◌≡◌, length}
use Rattle.cwr_causes.specs.Format.GluedLines.{first_record}
use Rattle.cwr_causes.proofs.glued_lines.first_record.Given as goal

abbrev pub invariant-loop-rest : goal.invariant-loop-rest
invariant-loop-rest l = first_record l.rest ≡ first_record l.fn.text

abbrev pub decreases-loop-rest : goal.decreases-loop-rest
decreases-loop-rest l = length l.rest
