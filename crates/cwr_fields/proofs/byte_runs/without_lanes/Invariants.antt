use Rattle.std.proofs.Common.{◌≡◌, length}
use Rattle.cwr_fields.specs.Format.Bytes.{trimmed}
use Rattle.cwr_fields.proofs.byte_runs.without_lanes.Given as goal

abbrev pub invariant-loop-front : goal.invariant-loop-front
invariant-loop-front l = trimmed l.rest ≡ trimmed l.fn.text

abbrev pub decreases-loop-front : goal.decreases-loop-front
decreases-loop-front l = length l.rest
