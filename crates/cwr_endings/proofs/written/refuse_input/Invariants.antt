use Rattle.std.proofs.Common.{◌≡◌, take, map}
use Rattle.std.specs.Prelude.{IfSome}
use Rattle.cwr_endings.specs.Format.Endings.{IsNoInput}
use Rattle.cwr_endings.proofs.written.refuse_input.Given as goal

abbrev pub invariant-loop-word : goal.invariant-loop-word
invariant-loop-word g l = record {
  apart : IfSome (g.S.Store.held l.initial.store) (IsNoInput l.out (take l.word-index (map (λ w. w.now) l.words)));
  kept : g.S.Store.held l.store ≡ g.S.Store.held l.initial.store;
  making : g.S.Store.making l.store ≡ g.S.Store.making l.initial.store;
  failures : g.S.Store.failures l.store ≡ g.S.Store.failures l.initial.store;
}
