use Rattle.std.proofs.Common.{◌≡◌, None}
use Rattle.cwr_files.specs.Format.Files.{Turns}
use Rattle.cwr_files.specs.Steps.NewFiles.{HasTried}
use Rattle.cwr_files.proofs.new_files.create_part.Given as goal

abbrev pub invariant-loop-tries : goal.invariant-loop-tries
invariant-loop-tries g l = record {
  tried : g.S.Store.making l.initial.store ≡ None
      → Turns (g.S.Store.held l.initial.store) (g.S.Store.held l.store) (HasTried l.name l.tries);
  making : g.S.Store.making l.initial.store ≡ None → g.S.Store.making l.store ≡ None;
  unfailed : g.S.Store.failures l.store ≡ g.S.Store.failures l.initial.store;
}
