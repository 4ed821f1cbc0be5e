use Rattle.std.proofs.Common.{◌≡◌, ◌+◌, ◌-◌, ◌^◌, min, length, take}
use Rattle.std.specs.Prelude.{sum_by}
use Rattle.cwr_values.proofs.groups.Group.records.Given as goal

abbrev pub invariant-loop-transaction : goal.invariant-loop-transaction
invariant-loop-transaction l = l.records ≡ min (2 + sum_by length (take l.transaction-index l.transaction-items)) (2 ^ 64 - 1)
