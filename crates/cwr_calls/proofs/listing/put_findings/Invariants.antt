use Rattle.std.proofs.Common.{map, take}
use Rattle.cwr_calls.specs.Format.FindingNumbers.{finding_in_c}
use Rattle.cwr_calls.specs.Steps.Listed.{PutsMore}
use Rattle.cwr_calls.proofs.listing.put_findings.Given as goal

abbrev pub invariant-loop-one : goal.invariant-loop-one
invariant-loop-one l = PutsMore (map (finding_in_c l.before) (take l.one-index l.found)) l.initial.entries l.start l.entries l.at
