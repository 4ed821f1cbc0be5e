use Rattle.std.proofs.Common.{ℕ, None, Some, ap, subst, sym, ◌∙◌}
use Rattle.cwr_decode.specs.Steps.Machines.{FitsWaiting, Standing, Settles}
use Rattle.cwr_decode.specs.Steps.Calls.{Feeds}
use Rattle.cwr_decode.proofs.lemmas.AnsweredAtOnce.{settled_feeds}
use Rattle.cwr_decode.proofs.lemmas.AfterPiece.{finished_feeds, fed_whole, settled_reading, settled_sound}
use Rattle.cwr_decode.proofs.lemmas.HeldOpen.{waiting_fits}
use Rattle.cwr_decode.proofs.machine.Machine.feed.Goals as goal

pub is_settled-requires-clause-fits : goal.is_settled-requires-clause-fits
is_settled-requires-clause-fits c = waiting_fits c.args.self.now c.requires.under_way

pub settle-requires-clause-fits : goal.settle-requires-clause-fits
settle-requires-clause-fits c =
    subst FitsWaiting (sym (c.is_settled.ensures.kept c.if-is_settled.false)) (waiting_fits c.args.self.now c.requires.under_way)

pub feed_lines-requires-clause-sound : goal.feed_lines-requires-clause-sound
feed_lines-requires-clause-sound c =
    settled_sound c.args.self.now c.is_settled.new.self c.requires (c.is_settled.ensures.settled c.if-is_settled.true)

pub feed_lines-requires-2-clause-sound : goal.feed_lines-requires-2-clause-sound
feed_lines-requires-2-clause-sound c =
    let settles =
    subst (λ (q : Standing). Settles q.state q None c.settle.new.self) (c.is_settled.ensures.kept c.if-is_settled.false)
    c.in_default.ensures in
    settled_sound c.args.self.now c.settle.new.self c.requires settles

pub feed_lines-requires-2-clause-reading : goal.feed_lines-requires-2-clause-reading
feed_lines-requires-2-clause-reading c =
    let settles =
    subst (λ (q : Standing). Settles q.state q None c.settle.new.self) (c.is_settled.ensures.kept c.if-is_settled.false)
    c.in_default.ensures in
    settled_reading c.args.self.now c.settle.new.self c.requires settles

pub returns-then-self : goal.returns-then-self
returns-then-self c =
    subst (λ (n : ℕ). Feeds c.args.self.now c.args.piece.now n c.finish.result.outcome c.finish.new.self)
    (sym c.finish.ensures.used)
    (finished_feeds c.args.self.now c.finish.new.self c.args.piece.now c.finish.result.outcome
    (ap (λ (d : Standing). d.finished) (sym c.self.view_is) ∙ c.if-self.true) c.finish.ensures.finishes)

pub returns-then-is_settled : goal.returns-then-is_settled
returns-then-is_settled c =
    fed_whole c.args.self.now c.is_settled.new.self c.feed_lines.new.self c.args.piece.now c.feed_lines.result.used
    c.feed_lines.result.outcome c.requires.ready
    (ap (λ (d : Standing). d.finished) (sym c.self.view_is) ∙ c.if-self.false) (c.is_settled.ensures.settled c.if-is_settled.true)
    c.feed_lines.ensures

pub returns-in-Some : goal.returns-in-Some
returns-in-Some c =
    settled_feeds c.args.self.now c.settle.new.self c.args.piece.now c.in-Some.outcome c.requires.ready
    (ap (λ (d : Standing). d.finished) (sym c.self.view_is) ∙ c.if-self.false)
    (subst (λ (q : Standing). Settles q.state q (Some c.in-Some.outcome) c.settle.new.self)
    (c.is_settled.ensures.kept c.if-is_settled.false) c.in-Some.ensures)

pub returns : goal.returns
returns c =
    let settles =
    subst (λ (q : Standing). Settles q.state q None c.settle.new.self) (c.is_settled.ensures.kept c.if-is_settled.false)
    c.in_default.ensures in
    fed_whole c.args.self.now c.settle.new.self c.feed_lines-2.new.self c.args.piece.now c.feed_lines-2.result.used
    c.feed_lines-2.result.outcome c.requires.ready
    (ap (λ (d : Standing). d.finished) (sym c.self.view_is) ∙ c.if-self.false) settles c.feed_lines-2.ensures
