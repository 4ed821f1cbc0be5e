use Rattle.std.proofs.Common.{◌≡◌, ◌≤◌, ◌+◌, ◌-◌, ◌^◌, min, length, take}
use Rattle.std.specs.Prelude.{sum_by}
use Rattle.cwr_values.proofs.lemmas.Grouping.{count_records}
use Rattle.cwr_encode.proofs.group_rows.totals.Given as goal

abbrev pub invariant-loop-group : goal.invariant-loop-group
invariant-loop-group l = record {
  within : l.i ≤ length l.transmission.groups;
  transactions_counted : l.transactions ≡ min (sum_by (λ g. length g.transactions) (take l.i l.transmission.groups)) (2 ^ 64 - 1);
  records_counted : l.records ≡ min (2 + sum_by count_records (take l.i l.transmission.groups)) (2 ^ 64 - 1);
}

abbrev pub decreases-loop-group : goal.decreases-loop-group
decreases-loop-group l = length l.transmission.groups - l.i
