use Rattle.std.proofs.Common.{◌≡◌, ◌-◌}
use Rattle.cwr_calls.proofs.lemmas.BlankTexts.{blank_front}
use Rattle.cwr_calls.proofs.codes.blank_line.Given as goal

abbrev pub invariant-loop-i : goal.invariant-loop-i
invariant-loop-i l = l.line.items ≡ blank_front l.kind (l.i - 1)
