use Rattle.std.proofs.Common.{◌≡◌, ℕ, List, [], Option, None, map, take}
use Rattle.cwr_acks.specs.Format.AckLines.{Matched}
use Rattle.cwr_acks.specs.Steps.AckSteps.{IsKept, held_if}
use Rattle.cwr_endings.specs.declared.endings.Status.TheVariants as statuses
use Rattle.cwr_reports.specs.Format.Endings.{IsWorstOf}
use Rattle.cwr_reports.specs.Steps.Several.{IsFirst}
use Rattle.cwr_answers.specs.Format.Endings.{wanted_of}
use Rattle.cwr_answers.specs.Steps.Reading.{IsStanding}
use Rattle.cwr_answers.specs.Steps.Seeking.{ReadsEach}
use Rattle.cwr_answers.proofs.answers.read_several.Given as goal

abbrev pub invariant-loop-name : goal.invariant-loop-name
invariant-loop-name g l = record {
  kept : g.S.Store.held l.store ≡ g.S.Store.held l.initial.store;
  first : (first : Option (List ℕ)) → IsFirst g.I.Read.remaining l.initial.standard first → IsFirst g.I.Read.remaining l.standard first;
  stands : IsStanding l.reading.delivery;
  output : g.W.Target.failures l.reading.lines ≡ g.W.Target.failures l.fn.reading.lines;
  worst : (first : Option (List ℕ)) → IsFirst g.I.Read.remaining l.initial.standard first
      → IsWorstOf None l.answering.limits (wanted_of l.answering.whole) (g.S.Store.held l.initial.store) first
      (take l.name-index (map (λ n. n.now) l.answering.files.now)) l.sums.status;
  answers : (first : Option (List ℕ)) → IsFirst g.I.Read.remaining l.initial.standard first → (matched : Option Matched)
      → IsKept (held_if l.fn.reading.delivery) matched [] → l.sums.status ≡ statuses.Good
      → ReadsEach l.answering.limits (g.S.Store.held l.initial.store) first (take l.name-index (map (λ n. n.now) l.answering.files.now)) matched
      (held_if l.reading.delivery);
}
