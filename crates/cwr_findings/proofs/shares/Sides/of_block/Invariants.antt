use Rattle.std.proofs.Common.{◌≡◌, List, ◌++◌, drop}
use Rattle.cwr_lines.specs.Format.Records.{RecordValue}
use Rattle.cwr_findings.specs.Format.Findings.{parties_after}
use Rattle.cwr_findings.specs.Steps.Walks.{SidesAddUpTo}
use Rattle.cwr_findings.proofs.lemmas.BlockParties.{parties_left}
use Rattle.cwr_findings.proofs.shares.Sides.of_block.Given as goal

abbrev pub invariant-loop-i : goal.invariant-loop-i
invariant-loop-i l =
    (seen : List RecordValue) × SidesAddUpTo seen l.sides
    × (seen ++ parties_left l.among_parties (drop l.i l.transaction) ≡ parties_after (drop l.first l.transaction))
