use Rattle.std.proofs.Common.{◌≡◌, ◌≤◌, ◌-◌, ◌++◌, ℕ, List, Option, length, take, false}
use Rattle.cwr_devices.specs.Steps.Sinks.{HasWritten, has_failed, writer_of}
use Rattle.cwr_encode.specs.Steps.GroupTexts.{text_of_groups}
use Rattle.cwr_encode.proofs.group_rows.put_groups.Given as goal

abbrev pub invariant-loop-group : goal.invariant-loop-group
invariant-loop-group g l = record {
  within : l.i ≤ length l.transmission.groups;
  unfailed : has_failed l.sink ≡ false;
  counts : g.W.Target.failures (writer_of l.sink) ≡ g.W.Target.failures (writer_of l.initial.sink);
  written : (start : Option (List ℕ)) (before : List ℕ) → HasWritten g.W.Target.contents start before l.initial.sink
      → HasWritten g.W.Target.contents start (before ++ text_of_groups (take l.i l.transmission.groups)) l.sink;
}

abbrev pub decreases-loop-group : goal.decreases-loop-group
decreases-loop-group g l = length l.transmission.groups - l.i
