use Rattle.std.proofs.Common.{ap, subst, ◌∙◌}
use Rattle.std.specs.Prelude.{IfSome}
use Rattle.cwr_values.specs.declared.items.Item.TheVariants as items
use Rattle.cwr_decode.specs.declared.outcomes.Outcome.TheVariants as outcomes
use Rattle.cwr_decode.specs.Steps.Calls.{Feeds}
use Rattle.cwr_decode.specs.Steps.Machines.{Standing}
use Rattle.cwr_decode.proofs.lemmas.AfterPiece.{found_feeds, found_sound}
use Rattle.cwr_decode.proofs.decoders.Decoder.feed_quickly.Goals as goal

pub invariant_of-self : goal.invariant_of-self
invariant_of-self c =
    let d : Standing = c.self.inside.machine in
    found_sound c.feed_quickly.result.1 d c.feed_quickly.new.self c.args.piece.now c.feed_quickly.result.0 c.self.invariant
    (found_feeds c.feed_quickly.result.1 d c.feed_quickly.new.self c.args.piece.now c.feed_quickly.result.0 c.self.invariant.ready
    (ap (λ (q : Standing). q.state) c.self.view_is ∙ c.requires.reading)
    (ap (λ (q : Standing). q.finished) c.self.view_is ∙ c.requires.fresh) c.feed_quickly.ensures.some) c.feed_quickly.ensures.none

pub returns-clause-some : goal.returns-clause-some
returns-clause-some c =
    let d : Standing = c.self.inside.machine in
    subst (λ (q : Standing). IfSome c.feed_quickly.result.1 (λ whole. Feeds q c.args.piece.now c.feed_quickly.result.0
    (outcomes.Item (items.Transaction whole)) c.feed_quickly.new.self)) c.self.view_is
    (found_feeds c.feed_quickly.result.1 d c.feed_quickly.new.self c.args.piece.now c.feed_quickly.result.0 c.self.invariant.ready
    (ap (λ (q : Standing). q.state) c.self.view_is ∙ c.requires.reading)
    (ap (λ (q : Standing). q.finished) c.self.view_is ∙ c.requires.fresh) c.feed_quickly.ensures.some)
