use Rattle.std.proofs.Common.{◌≡◌, ℕ, List, Option, map, take}
use Rattle.cwr_files.specs.Steps.NewFiles.{HasKeptCount}
use Rattle.cwr_reports.specs.Steps.Several.{IsFirst}
use Rattle.cwr_answers.specs.Format.Endings.{AreSent}
use Rattle.cwr_answers.specs.Steps.Reading.{IsNew, KeepsSent}
use Rattle.cwr_answers.proofs.answers.delivery_of.Given as goal

abbrev pub invariant-loop-name : goal.invariant-loop-name
invariant-loop-name g l = record {
  kept : g.S.Store.held l.store ≡ g.S.Store.held l.initial.store;
  first : (first : Option (List ℕ)) → IsFirst g.I.Read.remaining l.initial.standard first → IsFirst g.I.Read.remaining l.standard first;
  sent : (first : Option (List ℕ)) → IsFirst g.I.Read.remaining l.initial.standard first
      → AreSent l.answering.limits (g.S.Store.held l.initial.store) first (take l.name-index (map (λ n. n.now) l.answering.sent.now));
  new : IsNew l.answering.by_place l.delivery;
  keeps : (first : Option (List ℕ)) → IsFirst g.I.Read.remaining l.initial.standard first
      → KeepsSent l.answering.limits (g.S.Store.held l.initial.store) first (take l.name-index (map (λ n. n.now) l.answering.sent.now)) l.delivery;
  failures : HasKeptCount (g.S.Store.failures l.initial.store) (g.S.Store.failures l.store);
}
