use Rattle.std.proofs.Common.{◌≡◌, ◌≤◌, ◌+◌, ℕ, List, ◌++◌, drop, false}
use Rattle.cwr_notes.specs.Format.FindingNotes.{parties_from}
use Rattle.cwr_notes.specs.Steps.OtherRecords.{AreListed}
use Rattle.cwr_notes.proofs.other_records.parties_of.Given as goal

abbrev pub invariant-loop-at : goal.invariant-loop-at
invariant-loop-at l =
    (seen : List ℕ) × AreListed seen l.found × (seen ++ parties_from l.among_parties l.at (drop l.at l.transaction)
    ≡ parties_from false (l.first + 1) (drop (l.first + 1) l.transaction)) × (l.found.count ≤ l.at)
