use Rattle.std.proofs.Common.{◌≡◌, take, fold}
use Rattle.cwr_sent.specs.Format.SentRows.{shown_in}
use Rattle.cwr_state_rows.specs.Steps.HeldRows.{counts_with_group}
use Rattle.cwr_state_rows.proofs.counts.count_sent.Given as goal

abbrev pub invariant-loop-group : goal.invariant-loop-group
invariant-loop-group l = l.so_far ≡ fold (counts_with_group l.files) l.fn.counts (take l.group-index (shown_in l.sent).groups)
