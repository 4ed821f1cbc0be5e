use Rattle.std.proofs.Common.{◌≡◌, List, Option, refl, subst, sym, take, arith}
use Rattle.std.specs.Prelude.{IfSome, IsNone}
use Rattle.cwr_lines.specs.Format.Records.{RecordValue}
use Rattle.cwr_values.specs.declared.items.Item.TheVariants as items
use Rattle.cwr_decode.specs.declared.machine.State.{State}
use Rattle.cwr_decode.specs.declared.outcomes.Outcome.{Outcome}
use Rattle.cwr_decode.specs.declared.outcomes.Outcome.TheVariants as outcomes
use Rattle.cwr_decode.specs.Steps.Calls.{Feeds}
use Rattle.cwr_decode.specs.Steps.Machines.{again}
use Rattle.cwr_decode.proofs.lemmas.FromReader.{consumes_taken}
use Rattle.cwr_decode.proofs.lemmas.FedFromReader.{reads_failed, reads_fed}
use Rattle.cwr_decode.proofs.readings.pull_quickly.Goals as goal

pub returns-in-Err-clause-reads : goal.returns-in-Err-clause-reads
returns-in-Err-clause-reads g c = reads_failed c.args.decoder.now _ _ c.requires.reading c.requires.fresh c.fill.follows.holds-at-none.0

pub returns-in-Some-clause-reads : goal.returns-in-Some-clause-reads
returns-in-Some-clause-reads g c =
    let out : Outcome = outcomes.Item (items.Transaction c.in-Some.whole) in
    let way = c.feed_quickly-used.ensures.under_way in
    let f : Feeds c.args.decoder.now c.in-Ok.piece.now c.feed_quickly-used.result.0 out c.feed_quickly-used.new.self =
    subst (λ (o : Option (List RecordValue)). IfSome o (λ whole. Feeds c.args.decoder.now c.in-Ok.piece.now
    c.feed_quickly-used.result.0 (outcomes.Item (items.Transaction whole))
    c.feed_quickly-used.new.self)) c.in-Some.is c.feed_quickly-used.ensures.some in
    reads_fed c.args.decoder.now c.feed_quickly-used.new.self _ _ c.in-Ok.piece.now c.feed_quickly-used.result.0 out _ refl way
    c.requires.fresh c.in-Ok.ensures.front f.within
    (consumes_taken _ _ _ c.in-Ok.piece.now c.feed_quickly-used.result.0 c.fill.follows.holds-at-none.0 c.in-Ok.ensures.front
    f.within c.consume.ensures.bytes)
    f.carries.stands f.right f.carries.leaves (f.carries.empties way.input way.given way.stands)
    (subst (λ (s : State). IfSome (again s) (λ o. out ≡ o)) (sym c.requires.reading) tt) (λ is. absurd (cc is)) f.carries.finished
    (f.kept way.input way.given way.stands) f.carries.limits

pub returns-in-None-clause-reads : goal.returns-in-None-clause-reads
returns-in-None-clause-reads g c =
    let way = c.feed_quickly-used.ensures.under_way in
    let f = c.feed_quickly-used.ensures.none (subst (λ (o : Option (List RecordValue)). IsNone o) (sym c.in-None.is) refl) in
    record {
      bytes = take c.feed_quickly-used.result.0 c.in-Ok.piece.now;
      count = omega arith;
      consumed =
          consumes_taken _ _ _ c.in-Ok.piece.now c.feed_quickly-used.result.0 c.fill.follows.holds-at-none.0 c.in-Ok.ensures.front
          f.within c.consume.ensures.bytes;
      stands = f.carries.stands;
      live = f.live;
      reading = f.reading;
      fresh = f.carries.finished;
      kept = f.grows way.input way.given way.stands;
      limits = f.carries.limits;
    }

pub returns-in-Some-clause-last : goal.returns-in-Some-clause-last
returns-in-Some-clause-last g c =
    let f : Feeds c.args.decoder.now c.in-Ok.piece.now c.feed_quickly-used.result.0
    (outcomes.Item (items.Transaction c.in-Some.whole)) c.feed_quickly-used.new.self =
    subst (λ (o : Option (List RecordValue)). IfSome o (λ whole. Feeds c.args.decoder.now c.in-Ok.piece.now
    c.feed_quickly-used.result.0 (outcomes.Item (items.Transaction whole))
    c.feed_quickly-used.new.self)) c.in-Some.is c.feed_quickly-used.ensures.some in
    record {
      bytes = take c.feed_quickly-used.result.0 c.in-Ok.piece.now;
      consumed =
          consumes_taken _ _ _ c.in-Ok.piece.now c.feed_quickly-used.result.0 c.fill.follows.holds-at-none.0 c.in-Ok.ensures.front
          f.within c.consume.ensures.bytes;
      held = c.keep_last.ensures;
    }

pub returns-in-None-clause-last : goal.returns-in-None-clause-last
returns-in-None-clause-last g c =
    let f = c.feed_quickly-used.ensures.none (subst (λ (o : Option (List RecordValue)). IsNone o) (sym c.in-None.is) refl) in
    record {
      bytes = take c.feed_quickly-used.result.0 c.in-Ok.piece.now;
      consumed =
          consumes_taken _ _ _ c.in-Ok.piece.now c.feed_quickly-used.result.0 c.fill.follows.holds-at-none.0 c.in-Ok.ensures.front
          f.within c.consume.ensures.bytes;
      held = c.keep_last.ensures;
    }
