use Rattle.std.proofs.Common.{◌≤◌, ◌-◌, length, take}
use Rattle.std.specs.List.{enumerate_from, flat_map}
use Rattle.cwr_devices.specs.Steps.Pens.{Adds}
use Rattle.cwr_tables.specs.declared.places.RowNumbers.TheVariants.{InTransaction}
use Rattle.cwr_tables.specs.Format.RecordTables.{inner_of_kind}
use Rattle.cwr_tables.proofs.record_tables.rows_under.Given as goal

abbrev pub invariant-loop-shown : goal.invariant-loop-shown
invariant-loop-shown g l = record {
  within : l.i ≤ length l.transaction;
  adds : Adds g.W.Target.contents g.W.Target.failures
      (flat_map (λ q. inner_of_kind l.fn.encoding l.fn.kind l.fn.head (InTransaction l.fn.place.group l.fn.place.transaction q.0) q.1)
      (take l.i (enumerate_from 0 l.transaction))) l.initial.pen l.pen;
}

abbrev pub decreases-loop-shown : goal.decreases-loop-shown
decreases-loop-shown g l = length l.transaction - l.i
