use Rattle.std.proofs.Common.{take}
use Rattle.cwr_summary_rows.specs.Format.Rows.{sum_in}
use Rattle.std.proofs.Common.{◌≡◌}
use Rattle.cwr_summary_rows.proofs.rows.sum_in.Given as goal

abbrev pub invariant-loop-i : goal.invariant-loop-i
invariant-loop-i l = l.sum ≡ sum_in (take l.i l.columns) l.summary.numbers
