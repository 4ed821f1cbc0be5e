use Rattle.std.proofs.Common.{◌≡◌, ◌≤◌, ◌-◌, length, drop}
use Rattle.std.specs.List.{position_from}
use Rattle.cwr_fields.specs.Format.Bytes.{is_control}
use Rattle.cwr_fields.proofs.byte_runs.first_control.Given as goal

abbrev pub invariant-loop-at : goal.invariant-loop-at
invariant-loop-at l = record {
  within : l.at ≤ length l.text;
  passed : position_from is_control l.at (drop l.at l.text) ≡ position_from is_control 0 l.text;
}

abbrev pub decreases-loop-at : goal.decreases-loop-at
decreases-loop-at l = length l.text - l.at
