use Rattle.std.proofs.Common.{take}
use Rattle.cwr_advice.specs.Steps.Facts.{AreFacts}
use Rattle.cwr_advice.proofs.facts.Facts.of.Given as goal

abbrev pub invariant-loop-sequence : goal.invariant-loop-sequence
invariant-loop-sequence l = AreFacts (take l.sequence l.transaction) l.facts
