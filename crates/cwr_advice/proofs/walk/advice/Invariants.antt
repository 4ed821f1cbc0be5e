use Rattle.std.proofs.Common.{◌≡◌}
use Rattle.cwr_advice.proofs.lemmas.AdviceByRecord.{advice_before}
use Rattle.cwr_advice.proofs.walk.advice.Given as goal

abbrev pub invariant-loop-sequence : goal.invariant-loop-sequence
invariant-loop-sequence l = l.found.items ≡ advice_before l.said l.transaction l.sequence
