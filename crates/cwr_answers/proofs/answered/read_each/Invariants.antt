use Rattle.std.proofs.Common.{◌≡◌, [], Option, map, take}
use Rattle.cwr_acks.specs.Format.AckLines.{Matched}
use Rattle.cwr_acks.specs.Steps.AckSteps.{IsKept, held_if}
use Rattle.cwr_files.specs.Format.Inputs.{IsThereOrRead}
use Rattle.cwr_answers.specs.Steps.Seeking.{ReadsEach}
use Rattle.cwr_answers.proofs.answered.read_each.Given as goal

abbrev pub invariant-loop-name : goal.invariant-loop-name
invariant-loop-name g l = record {
  standard : (input : g.row.I.Denot) → IsThereOrRead input l.initial.standard → IsThereOrRead input l.standard;
  failures : g.S.Store.failures l.store ≡ g.S.Store.failures l.initial.store;
  kept : g.S.Store.held l.store ≡ g.S.Store.held l.initial.store;
  making : g.S.Store.making l.store ≡ g.S.Store.making l.initial.store;
  answers : (input : g.row.I.Denot) → IsThereOrRead input l.initial.standard → (matched : Option Matched)
      → IsKept (held_if l.fn.delivery) matched []
      → ReadsEach l.answered.limits (g.S.Store.held l.initial.store) (g.I.Read.remaining input)
      (take l.name-index (map (λ name. name.now) l.answered.files.now)) matched (held_if l.delivery);
}
