use Rattle.std.proofs.Common.{◌∙◌, arith, refl, inl, inr}
use Rattle.cwr_decode.proofs.lemmas.FromReader.{feeds_both, feeds_none, reads_after, was_under_way}
use Rattle.std.proofs.KnownBytes.{Consumes-nil}
use Rattle.cwr_decode.proofs.lemmas.BoundedInputs.{feeds_short}
use Rattle.cwr_decode.proofs.lemmas.LastHeld.{reads_both, reads_nothing}
use Rattle.cwr_decode.proofs.readings.read_on.Goals as goal

pub loop-reported-init : goal.loop-reported-init
loop-reported-init g c =
    (feeds_none c.args.decoder.now _ c.requires.reading c.requires.fresh, refl, inl refl, reads_nothing _ _ _ (Consumes-nil _))

pub returns-in-Some-clause-reads : goal.returns-in-Some-clause-reads
returns-in-Some-clause-reads g c = reads_after _ _ _ _ _ _ _ _ c.loop-reported.invariant.0 c.in-Some.ensures.reads

pub overflow_add-pieces : goal.overflow_add-pieces
overflow_add-pieces g c =
    omega (
      arith,
      feeds_short _ _ _ _ _ (was_under_way _ _ c.loop-reported.invariant.2 c.in_default.ensures.stood)
          (feeds_both _ 1 _ _ _ _ _ _ c.loop-reported.invariant.0 c.in_default.ensures.continues),
    )

pub loop-reported-smaller : goal.loop-reported-smaller
loop-reported-smaller g c =
    omega (
      arith,
      feeds_short _ _ _ _ _ (was_under_way _ _ c.loop-reported.invariant.2 c.in_default.ensures.stood)
          (feeds_both _ 1 _ _ _ _ _ _ c.loop-reported.invariant.0 c.in_default.ensures.continues),
    )

pub loop-reported-preserved : goal.loop-reported-preserved
loop-reported-preserved g c = (
  feeds_both _ 1 _ _ _ _ _ _ c.loop-reported.invariant.0 c.in_default.ensures.continues,
  c.in_default.ensures.same ∙ c.loop-reported.invariant.1,
  inr (was_under_way _ _ c.loop-reported.invariant.2 c.in_default.ensures.stood),
  reads_both _ _ _ _ _ _ c.loop-reported.invariant.3 c.in_default.ensures.last,
)

pub returns-in-Some-clause-last : goal.returns-in-Some-clause-last
returns-in-Some-clause-last g c = reads_both _ _ _ _ _ _ c.loop-reported.invariant.3 c.in-Some.ensures.last
