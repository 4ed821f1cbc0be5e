use Rattle.std.proofs.Common.{◌≤◌, ◌-◌, length, take}
use Rattle.std.specs.List.{flat_map}
use Rattle.cwr_devices.specs.Steps.Pens.{Adds}
use Rattle.cwr_notes.specs.Format.FindingNotes.{noted_at}
use Rattle.cwr_notes.proofs.finding_notes.other_cells.Given as goal

abbrev pub invariant-loop-position : goal.invariant-loop-position
invariant-loop-position g l = record {
  within : l.i ≤ length l.positions;
  adds : Adds g.W.Target.contents g.W.Target.failures (flat_map (noted_at l.first l.transaction l.rule) (take l.i l.positions)) l.initial.pen l.pen;
}

abbrev pub decreases-loop-position : goal.decreases-loop-position
decreases-loop-position g l = length l.positions - l.i
