use Rattle.std.proofs.Common.{◌≡◌, take}
use Rattle.cwr_findings.specs.Steps.Walks.{IsBefore}
use Rattle.cwr_findings.proofs.lemmas.FoundByRecord.{found_before}
use Rattle.cwr_findings.proofs.walk.findings.Given as goal

abbrev pub invariant-loop-sequence : goal.invariant-loop-sequence
invariant-loop-sequence l = record {
  found : l.found.items ≡ found_before l.start l.registered l.sequence;
  before : IsBefore (take l.sequence l.registered) l.before;
}
