use Rattle.std.proofs.Common.{◌≡◌, ◌≤◌, ◌-◌, length, take}
use Rattle.cwr_devices.specs.Steps.Pens.{Adds}
use Rattle.cwr_tables.specs.Format.WorkTables.{names}
use Rattle.cwr_tables.specs.Steps.WorkTexts.{has_owners, within}
use Rattle.cwr_tables.proofs.work_texts.names.Given as goal

abbrev pub invariant-loop-shown : goal.invariant-loop-shown
invariant-loop-shown g l = record {
  inside : l.i ≤ length l.transaction;
  later : l.later ≡ has_owners l.fn.side (take l.i l.transaction);
  adds : Adds g.W.Target.contents g.W.Target.failures
      (within l.fn.quoted (names l.fn.encoding l.fn.side (take l.i l.transaction))) l.initial.pen l.pen;
}

abbrev pub decreases-loop-shown : goal.decreases-loop-shown
decreases-loop-shown g l = length l.transaction - l.i
