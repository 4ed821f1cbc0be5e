use Rattle.std.proofs.Common.{◌≡◌, ◌≤◌, ◌-◌, length, take}
use Rattle.std.specs.List.{flat_map}
use Rattle.cwr_devices.specs.Steps.Pens.{Adds}
use Rattle.cwr_advise.specs.Format.AdviceTexts.{noted_advice}
use Rattle.cwr_advise.specs.Steps.AdviceCounts.{counted_from, counts_after, lines_by}
use Rattle.cwr_advise.proofs.item_advice.told_lines.Given as goal

abbrev pub invariant-loop-advice : goal.invariant-loop-advice
invariant-loop-advice g l = record {
  within : l.i ≤ length l.found;
  told : l.told ≡ counts_after l.initial.told (take l.i l.found);
  adds : Adds g.W.Target.contents g.W.Target.failures
      (flat_map (lines_by (noted_advice l.manner.apart l.group l.sequence l.first l.transaction) l.manner.all)
      (take l.i (counted_from l.initial.told l.found))) l.initial.pen l.pen;
}

abbrev pub decreases-loop-advice : goal.decreases-loop-advice
decreases-loop-advice g l = length l.found - l.i
