use Rattle.std.proofs.Common.{◌≤◌, ◌-◌, length, take}
use Rattle.cwr_devices.specs.Steps.Pens.{Adds}
use Rattle.cwr_notes.specs.Format.RecordTexts.{record_lines}
use Rattle.std.specs.List.{enumerate_from, flat_map}
use Rattle.cwr_tools.proofs.shown_records.transaction_lines.Given as goal

abbrev pub invariant-loop-shown : goal.invariant-loop-shown
invariant-loop-shown g l = record {
  within : l.i ≤ length l.transaction;
  adds : Adds g.W.Target.contents g.W.Target.failures
      (flat_map (λ p. record_lines p.0 p.1) (take l.i (enumerate_from l.first l.transaction))) l.initial.pen l.pen;
}

abbrev pub decreases-loop-shown : goal.decreases-loop-shown
decreases-loop-shown g l = length l.transaction - l.i
