use Rattle.std.proofs.Common.{◌≡◌, ◌≤◌, ◌-◌, length, take, fold}
use Rattle.std.specs.List.{enumerate_from}
use Rattle.cwr_state_rows.specs.Steps.HeldRows.{counts_with_one}
use Rattle.cwr_state_rows.proofs.counts.count_group.Given as goal

abbrev pub invariant-loop-facts : goal.invariant-loop-facts
invariant-loop-facts l = record {
  within : l.t ≤ length l.group.facts;
  counted : l.so_far ≡ fold (counts_with_one l.files l.group.answers) l.fn.counts (enumerate_from 0 (take l.t l.group.facts));
}

abbrev pub decreases-loop-facts : goal.decreases-loop-facts
decreases-loop-facts l = length l.group.facts - l.t
