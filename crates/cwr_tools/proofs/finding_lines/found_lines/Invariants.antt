use Rattle.std.proofs.Common.{◌≤◌, ◌-◌, length, take}
use Rattle.std.specs.List.{flat_map}
use Rattle.cwr_devices.specs.Steps.Pens.{Adds}
use Rattle.cwr_findings.specs.Format.ReportLines.{finding_line}
use Rattle.cwr_tools.proofs.finding_lines.found_lines.Given as goal

abbrev pub invariant-loop-finding : goal.invariant-loop-finding
invariant-loop-finding g l = record {
  within : l.i ≤ length l.found;
  adds : Adds g.W.Target.contents g.W.Target.failures (flat_map (finding_line l.group l.sequence) (take l.i l.found)) l.initial.pen
      l.pen;
}

abbrev pub decreases-loop-finding : goal.decreases-loop-finding
decreases-loop-finding g l = length l.found - l.i
