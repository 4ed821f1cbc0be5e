use Rattle.std.proofs.Common.{take}
use Rattle.cwr_findings.specs.Steps.Walks.{AreTotals}
use Rattle.cwr_findings.proofs.totals.TransactionTotals.of.Given as goal

abbrev pub invariant-loop-sequence : goal.invariant-loop-sequence
invariant-loop-sequence l = AreTotals (take l.sequence l.transaction) l.totals
