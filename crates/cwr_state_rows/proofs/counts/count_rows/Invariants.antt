use Rattle.std.proofs.Common.{◌≡◌, take, fold}
use Rattle.cwr_delivery.specs.Steps.Deliveries.{held_in}
use Rattle.cwr_state_rows.specs.Steps.HeldRows.{counts_with_sent, no_counts}
use Rattle.cwr_state_rows.proofs.counts.count_rows.Given as goal

abbrev pub invariant-loop-sent : goal.invariant-loop-sent
invariant-loop-sent l =
    l.so_far ≡ fold (counts_with_sent (held_in l.delivery).files) no_counts (take l.sent-index (held_in l.delivery).sent)
