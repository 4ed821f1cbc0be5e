use Rattle.std.proofs.Common.{◌≤◌, ◌-◌, length, take}
use Rattle.std.specs.List.{flat_map}
use Rattle.cwr_devices.specs.Steps.Pens.{Adds}
use Rattle.cwr_notes.specs.Format.FindingNotes.{explained_finding}
use Rattle.cwr_notes.specs.Steps.OtherRecords.{HasPassed}
use Rattle.cwr_notes.proofs.finding_notes.all_explained.Given as goal

abbrev pub invariant-loop-finding : goal.invariant-loop-finding
invariant-loop-finding g l = record {
  within : l.i ≤ length l.found;
  passed : HasPassed l.transaction l.passed;
  adds : Adds g.W.Target.contents g.W.Target.failures (flat_map (explained_finding l.apart l.group l.sequence l.first l.transaction) (take l.i l.found)) l.initial.pen l.pen;
}

abbrev pub decreases-loop-finding : goal.decreases-loop-finding
decreases-loop-finding g l = length l.found - l.i
