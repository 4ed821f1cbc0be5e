use Rattle.std.proofs.Common.{◌≡◌, ◌≤◌, ◌-◌, ◌++◌, ℕ, List, Option, length, take, false}
use Rattle.cwr_devices.specs.Steps.Sinks.{HasWritten, has_failed, writer_of}
use Rattle.cwr_encode.specs.Steps.GroupTexts.{text_of_transactions}
use Rattle.cwr_encode.proofs.group_rows.put_transactions.Given as goal

abbrev pub invariant-loop-transaction : goal.invariant-loop-transaction
invariant-loop-transaction g l = record {
  within : l.i ≤ length l.group.transactions;
  unfailed : has_failed l.sink ≡ false;
  counts : g.W.Target.failures (writer_of l.sink) ≡ g.W.Target.failures (writer_of l.initial.sink);
  written : (start : Option (List ℕ)) (before : List ℕ) → HasWritten g.W.Target.contents start before l.initial.sink
      → HasWritten g.W.Target.contents start (before ++ text_of_transactions (take l.i l.group.transactions)) l.sink;
}

abbrev pub decreases-loop-transaction : goal.decreases-loop-transaction
decreases-loop-transaction g l = length l.group.transactions - l.i
