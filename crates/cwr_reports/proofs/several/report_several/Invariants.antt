use Rattle.std.proofs.Common.{◌≡◌, ◌<◌, List, take, map}
use Rattle.cwr_devices.specs.Format.Failures.{most_failures}
use Rattle.cwr_files.specs.Format.Inputs.{IsThereOrRead}
use Rattle.cwr_reports.specs.Format.Endings.{IsWorstOf, advice_asked}
use Rattle.cwr_reports.specs.Steps.Marked.{ArePieces, Piece}
use Rattle.cwr_reports.proofs.several.report_several.Given as goal

abbrev pub invariant-loop-name : goal.invariant-loop-name
invariant-loop-name g l = record {
  worst : IsWorstOf (advice_asked l.asked) l.asked.limits l.asked.wanted (g.S.Store.held l.initial.store)
      (g.I.Read.remaining l.fn.standard) (take l.name-index (map (λ name. name.now) l.names)) l.tally.sums.status;
  lent : IsThereOrRead l.fn.standard l.standard;
  kept : g.S.Store.held l.store ≡ g.S.Store.held l.initial.store;
  making : g.S.Store.making l.store ≡ g.S.Store.making l.initial.store;
  output : g.W.Target.failures l.lines ≡ g.W.Target.failures l.fn.lines;
  told : g.W.Target.failures l.fn.lines < most_failures → (pieces : List Piece)
      × ArePieces l.asked l.explained (g.S.Store.held l.initial.store) (g.I.Read.remaining l.fn.standard)
      (take l.name-index (map (λ name. name.now) l.names)) g.W.Target.contents l.fn.lines l.lines (g.S.Store.failures l.initial.store)
      (g.S.Store.failures l.store) l.tally.sums pieces;
}
