use Rattle.std.proofs.Common.{◌≡◌, ◌≤◌, ◌*◌, take}
use Rattle.cwr_findings.specs.Format.Findings.{ownership}
use Rattle.cwr_notes.specs.Format.FindingNotes.{right_of}
use Rattle.cwr_notes.proofs.other_records.total_of.Given as goal

abbrev pub invariant-loop-at : goal.invariant-loop-at
invariant-loop-at l = record {
  total : l.total ≡ ownership (right_of l.rule) (take l.at l.transaction);
  small : l.total ≤ 10000000000 * l.at;
}
