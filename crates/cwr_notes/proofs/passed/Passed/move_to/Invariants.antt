use Rattle.std.proofs.Common.{◌≡◌}
use Rattle.cwr_notes.specs.Steps.OtherRecords.{HasPassed}
use Rattle.cwr_notes.proofs.passed.Passed.move_to.Given as goal

abbrev pub invariant-loop-at : goal.invariant-loop-at
invariant-loop-at l = record {
  passed : HasPassed l.transaction l.self;
  at : l.self.at ≡ l.at;
}
