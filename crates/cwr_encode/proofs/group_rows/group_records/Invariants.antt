use Rattle.std.proofs.Common.{◌≡◌, ◌≤◌, ◌+◌, ◌-◌, ◌^◌, min, length, take}
use Rattle.std.specs.Prelude.{sum_by}
use Rattle.cwr_encode.proofs.group_rows.group_records.Given as goal

abbrev pub invariant-loop-transaction : goal.invariant-loop-transaction
invariant-loop-transaction l = record {
  within : l.i ≤ length l.group.transactions;
  counted : l.records ≡ min (2 + sum_by length (take l.i l.group.transactions)) (2 ^ 64 - 1);
}

abbrev pub decreases-loop-transaction : goal.decreases-loop-transaction
decreases-loop-transaction l = length l.group.transactions - l.i
