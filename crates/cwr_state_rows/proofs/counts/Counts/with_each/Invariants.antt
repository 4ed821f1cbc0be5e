use Rattle.std.proofs.Common.{◌≡◌, take}
use Rattle.cwr_state_rows.specs.Steps.HeldRows.{counts_by}
use Rattle.cwr_state_rows.proofs.counts.Counts.with_each.Given as goal

abbrev pub invariant-loop-answer : goal.invariant-loop-answer
invariant-loop-answer l = l.counts ≡ counts_by l.fn.self (take l.answer-index l.answers)
