use Rattle.std.proofs.Common.{take}
use Rattle.cwr_advice.specs.Steps.Facts.{AreCollectedIn}
use Rattle.cwr_advice.proofs.territories.collected_in.Given as goal

abbrev pub invariant-loop-at : goal.invariant-loop-at
invariant-loop-at l = AreCollectedIn l.code (take l.at l.transaction) l.collected
