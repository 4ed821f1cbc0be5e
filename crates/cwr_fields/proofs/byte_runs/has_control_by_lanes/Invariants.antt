use Rattle.std.proofs.Common.{◌-◌, ◌+◌, length, ◌≡◌, take, drop, ◌<◌, ◌||◌}
use Rattle.cwr_fields.specs.Format.Bytes.{has_control}
use Rattle.cwr_fields.specs.Steps.Lanes.{has_seen}
use Rattle.cwr_fields.proofs.byte_runs.has_control_by_lanes.Given as goal

abbrev pub invariant-loop-at : goal.invariant-loop-at
invariant-loop-at l = record {
  within : l.last + 32 ≡ length l.text;
  near : l.at < l.last + 32;
  found : has_seen l.seen ≡ has_control (take l.at l.text) || has_control (drop l.last l.text);
}

abbrev pub decreases-loop-at : goal.decreases-loop-at
decreases-loop-at l = l.last - l.at
