use Rattle.std.proofs.Common.{take}
use Rattle.cwr_findings.specs.Steps.Walks.{HasNumbersOf}
use Rattle.cwr_findings.proofs.publishers.numbers_among.Given as goal

abbrev pub invariant-loop-i : goal.invariant-loop-i
invariant-loop-i l = HasNumbersOf (take l.i l.transaction) l.numbers
