use Rattle.std.proofs.Common.{None, take, refl, inl, inr, ◌∙◌, arith}
use Rattle.cwr_decode.proofs.lemmas.FedFromReader.{reads_failed}
use Rattle.cwr_decode.proofs.lemmas.FromReader.{consumes_taken, reads_after}
use Rattle.cwr_decode.proofs.lemmas.PassedOver.{passes_nothing, passes_shown}
use Rattle.cwr_decode.proofs.readings.pass_shown.Goals as goal

pub returns-then-not-is_settled-clause-passes : goal.returns-then-not-is_settled-clause-passes
returns-then-not-is_settled-clause-passes g c =
    passes_nothing _ c.args.decoder.now _ _ c.nothing.result c.nothing.ensures
    (c.is_settled.ensures.kept c.if-not-is_settled.true)

pub returns-in-Err-clause-passes : goal.returns-in-Err-clause-passes
returns-in-Err-clause-passes g c =
    let on = c.is_settled.ensures.continues c.if-not-is_settled.false in (
      reads_after 0 _ _ _ _ _ _ _ (on _) (reads_failed c.is_settled.new.self _ _ (on None).reading (on None).fresh c.fill.follows.holds-at-none.0),
      (on None).live,
    )

pub pass-passed-requires-clause-reading : goal.pass-passed-requires-clause-reading
pass-passed-requires-clause-reading g c = (c.is_settled.ensures.continues c.if-not-is_settled.false None).reading

pub pass-passed-requires-clause-fresh : goal.pass-passed-requires-clause-fresh
pass-passed-requires-clause-fresh g c = (c.is_settled.ensures.continues c.if-not-is_settled.false None).fresh

pub returns-clause-passes : goal.returns-clause-passes
returns-clause-passes g c =
    let on = c.is_settled.ensures.continues c.if-not-is_settled.false in
    passes_shown _ c.args.decoder.now c.is_settled.new.self c.pass-passed.new.self _ _ c.in-Ok.piece.now c.pass-passed.result
    (on _) c.pass-passed.ensures.passes
    (consumes_taken _ _ _ c.in-Ok.piece.now c.pass-passed.result.used c.fill.follows.holds-at-none.0 c.in-Ok.ensures.front
    c.pass-passed.ensures.passes.within c.consume.ensures.bytes)

pub returns-clause-last : goal.returns-clause-last
returns-clause-last g c = record {
  bytes = take c.pass-passed.result.used c.in-Ok.piece.now;
  consumed =
      consumes_taken _ _ _ c.in-Ok.piece.now c.pass-passed.result.used c.fill.follows.holds-at-none.0 c.in-Ok.ensures.front
      c.pass-passed.ensures.passes.within c.consume.ensures.bytes;
  held = c.keep_last.ensures;
}

pub returns-then-not-is_settled-clause-stays : goal.returns-then-not-is_settled-clause-stays
returns-then-not-is_settled-clause-stays g c = inl (c.is_settled.ensures.kept c.if-not-is_settled.true, refl)

pub returns-in-Err-clause-stays : goal.returns-in-Err-clause-stays
returns-in-Err-clause-stays g c =
    let yes = c.if-not-is_settled.false in
    let on = c.is_settled.ensures.continues yes None in
    inr (record {
      live = on.live;
      fresh = c.is_settled.ensures.fresh yes;
      inside = c.is_settled.ensures.inside yes;
      kept = on.kept;
      more = λ other. absurd (other on.reading);
    })

pub returns-clause-stays : goal.returns-clause-stays
returns-clause-stays g c =
    let yes = c.if-not-is_settled.false in
    let on = c.is_settled.ensures.continues yes None in
    let way = c.pass-passed.ensures.under_way in
    let more = c.pass-passed.ensures.passes.grows way.input way.given way.stands in
    inr (record {
      live = on.live;
      fresh = c.is_settled.ensures.fresh yes;
      inside = c.is_settled.ensures.inside yes;
      kept = omega (arith, on.kept, more.kept);
      more = λ other. omega (arith, on.kept, more.more (λ same. other (same ∙ on.reading)));
    })
