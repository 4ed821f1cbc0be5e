use Rattle.std.proofs.Common.{◌≡◌, ◌≤◌, take}
use Rattle.cwr_select.specs.Format.Sent.{transaction_as}
use Rattle.cwr_select.proofs.sent.work_as.Given as goal

abbrev pub invariant-loop-i : goal.invariant-loop-i
invariant-loop-i l = record {
  some : 1 ≤ l.i;
  begun : l.sent ≡ take l.i (transaction_as l.fn.works l.fn.transaction);
}
