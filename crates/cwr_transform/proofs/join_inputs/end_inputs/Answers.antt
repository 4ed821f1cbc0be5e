use Rattle.std.proofs.Common.{List, sym, subst, ◌∙◌}
use Rattle.cwr_devices.specs.Steps.Sources.{failures_of}
use Rattle.cwr_transform.specs.Steps.Joins.{HasFailed}
use Rattle.cwr_transform.proofs.lemmas.JoinInputs.{all_yielded, counted_with, kept_more}
use Rattle.cwr_transform.proofs.join_inputs.end_inputs.Goals as goal

pub loop-reader-preserved-then-at-number : goal.loop-reader-preserved-then-at-number
loop-reader-preserved-then-at-number g c = record {
  kept = c.end_input-told.ensures.kept ∙ c.loop-reader.invariant.kept;
  making = c.end_input-told.ensures.making ∙ c.loop-reader.invariant.making;
  failures = kept_more (failures_of c.in-Some.reader) (g.S.Store.failures c.args.store.now) (g.S.Store.failures c.loop-reader.store)
      (g.S.Store.failures c.end_input-told.new.store) c.loop-reader.invariant.failures c.end_input-told.ensures.failures;
  failed = counted_with failures_of c.loop-reader.yielded c.in-Some.reader (g.S.Store.failures c.args.store.now)
      (g.S.Store.failures c.loop-reader.store) (g.S.Store.failures c.end_input-told.new.store) c.loop-reader.invariant.failures
      c.loop-reader.invariant.failed c.end_input-told.ensures.failures;
}

pub loop-reader-preserved : goal.loop-reader-preserved
loop-reader-preserved g c = record {
  kept = c.end_input-told.ensures.kept ∙ c.loop-reader.invariant.kept;
  making = c.end_input-told.ensures.making ∙ c.loop-reader.invariant.making;
  failures = kept_more (failures_of c.in-Some.reader) (g.S.Store.failures c.args.store.now) (g.S.Store.failures c.loop-reader.store)
      (g.S.Store.failures c.end_input-told.new.store) c.loop-reader.invariant.failures c.end_input-told.ensures.failures;
  failed = counted_with failures_of c.loop-reader.yielded c.in-Some.reader (g.S.Store.failures c.args.store.now)
      (g.S.Store.failures c.loop-reader.store) (g.S.Store.failures c.end_input-told.new.store) c.loop-reader.invariant.failures
      c.loop-reader.invariant.failed c.end_input-told.ensures.failures;
}

pub returns-clause-failed : goal.returns-clause-failed
returns-clause-failed g c =
    λ failed. c.loop-reader.invariant.failed
    (subst (λ (l : List _). HasFailed failures_of l)
    (sym c.into_iter-reader-iterator.ensures.into_iter_gives.0
    ∙ all_yielded c.into_iter-reader-iterator.result c.loop-reader.yielded c.loop-reader.reader-iterator c.loop-reader.yielded_by
    c.in-None.ensures.steps.0) failed)
