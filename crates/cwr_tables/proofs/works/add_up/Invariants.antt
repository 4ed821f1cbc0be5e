use Rattle.std.proofs.Common.{◌≡◌, ◌*◌, ◌≤◌, ◌-◌, length, take}
use Rattle.std.specs.Prelude.{unwrap_or}
use Rattle.cwr_tables.specs.Format.WorkTables.{owners, total}
use Rattle.cwr_tables.proofs.works.add_up.Given as goal

abbrev pub invariant-loop-shown : goal.invariant-loop-shown
invariant-loop-shown l = record {
  within : l.i ≤ length l.transaction;
  performing : l.sums.performing ≡ total "pr share" (owners l.side (take l.i l.transaction));
  mechanical : l.sums.mechanical ≡ total "mr share" (owners l.side (take l.i l.transaction));
  synchronization : l.sums.synchronization ≡ total "sr share" (owners l.side (take l.i l.transaction));
  performing_few : unwrap_or l.sums.performing 0 ≤ 10000000000 * l.i;
  mechanical_few : unwrap_or l.sums.mechanical 0 ≤ 10000000000 * l.i;
  synchronization_few : unwrap_or l.sums.synchronization 0 ≤ 10000000000 * l.i;
}

abbrev pub decreases-loop-shown : goal.decreases-loop-shown
decreases-loop-shown l = length l.transaction - l.i
