use Rattle.std.proofs.Common.{◌≡◌}
use Rattle.cwr_devices.specs.Steps.Sources.{failures_of}
use Rattle.cwr_files.specs.Format.Files.{HasCounted}
use Rattle.cwr_files.specs.Steps.NewFiles.{HasKeptCount}
use Rattle.cwr_transform.specs.Steps.Joins.{HasFailed}
use Rattle.cwr_transform.proofs.join_inputs.end_inputs.Given as goal

abbrev pub invariant-loop-reader : goal.invariant-loop-reader
invariant-loop-reader g l = record {
  kept : g.S.Store.held l.store ≡ g.S.Store.held l.initial.store;
  making : g.S.Store.making l.store ≡ g.S.Store.making l.initial.store;
  failures : HasKeptCount (g.S.Store.failures l.initial.store) (g.S.Store.failures l.store);
  failed : HasFailed failures_of l.yielded → HasCounted (g.S.Store.failures l.initial.store) (g.S.Store.failures l.store);
}
