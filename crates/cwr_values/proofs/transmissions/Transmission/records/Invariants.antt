use Rattle.std.proofs.Common.{◌≡◌, ◌+◌, ◌-◌, ◌^◌, min, take}
use Rattle.std.specs.Prelude.{sum_by}
use Rattle.cwr_values.proofs.lemmas.Grouping.{count_records}
use Rattle.cwr_values.proofs.transmissions.Transmission.records.Given as goal

abbrev pub invariant-loop-group : goal.invariant-loop-group
invariant-loop-group l = l.records ≡ min (2 + sum_by count_records (take l.group-index l.group-items)) (2 ^ 64 - 1)
