use Rattle.std.proofs.Common.{◌≡◌, take}
use Rattle.cwr_state_rows.specs.Steps.HeldRows.{sorted_from}
use Rattle.cwr_state_rows.proofs.senders.sort_answers.Given as goal

abbrev pub invariant-loop-answer : goal.invariant-loop-answer
invariant-loop-answer l = l.sorted.items ≡ sorted_from l.files (take l.answer-index l.answers)
