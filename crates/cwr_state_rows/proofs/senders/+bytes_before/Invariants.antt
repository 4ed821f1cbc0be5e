use Rattle.std.proofs.Common.{length}
use Rattle.cwr_state_rows.proofs.senders.+bytes_before.Given as goal

abbrev pub decreases-bytes_before : goal.decreases-bytes_before
decreases-bytes_before l = length l.one.now
