use Rattle.std.proofs.Common.{◌≤◌, take}
use Rattle.cwr_notes.specs.Format.FindingNotes.{positions}
use Rattle.cwr_notes.specs.Steps.OtherRecords.{AreListed, is_other}
use Rattle.cwr_notes.proofs.other_records.positions_of.Given as goal

abbrev pub invariant-loop-at : goal.invariant-loop-at
invariant-loop-at l = record {
  found : AreListed (positions (is_other l.rule) (take l.at l.transaction)) l.found;
  few : l.found.count ≤ l.at;
}
