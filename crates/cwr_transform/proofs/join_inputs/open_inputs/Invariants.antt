use Rattle.std.proofs.Common.{◌≡◌, take}
use Rattle.cwr_files.specs.Format.Inputs.{IsThereOrRead}
use Rattle.cwr_transform.specs.Steps.Joins.{ReadEach, left_of}
use Rattle.cwr_transform.proofs.join_inputs.open_inputs.Given as goal

abbrev pub invariant-loop-name : goal.invariant-loop-name
invariant-loop-name g l = record {
  opened : ReadEach (g.S.Store.held l.initial.store) (g.I.Read.remaining l.fn.standard)
      (left_of g.S.Reader.Read.remaining g.I.Read.remaining) (take l.name-index l.names) l.readers.items;
  lent : IsThereOrRead l.fn.standard l.standard;
  kept : g.S.Store.held l.store ≡ g.S.Store.held l.initial.store;
  making : g.S.Store.making l.store ≡ g.S.Store.making l.initial.store;
  failures : g.S.Store.failures l.store ≡ g.S.Store.failures l.initial.store;
}
