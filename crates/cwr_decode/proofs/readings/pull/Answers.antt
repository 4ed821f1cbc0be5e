use Rattle.std.proofs.Common.{[], take, length, sym, ◌∙◌, arith}
use Rattle.std.proofs.lemmas.Bool.{eqb-true, eqb-false}
use Rattle.std.proofs.lemmas.List.{length-take-le}
use Rattle.std.proofs.KnownBytes.{Consumes-kept, Consumes-nil}
use Rattle.cwr_decode.proofs.lemmas.FromReader.{consumes_taken, needs_more}
use Rattle.cwr_decode.proofs.lemmas.LastHeld.{reads_nothing}
use Rattle.cwr_decode.proofs.lemmas.FedFromReader.{at_end, feeds_called, reads_failed, reads_fed, reads_finished, same_fed}
use Rattle.cwr_decode.proofs.lemmas.FedFromReader.{same_finished, reported_none, reported_some}
use Rattle.cwr_decode.proofs.readings.pull.Goals as goal

pub returns-in-Err-clause-reads : goal.returns-in-Err-clause-reads
returns-in-Err-clause-reads g c = reads_failed c.args.decoder.now _ _ c.requires.reading c.requires.fresh c.fill.follows.holds-at-none.0

pub returns-then-is_empty-clause-reads : goal.returns-then-is_empty-clause-reads
returns-then-is_empty-clause-reads g c = reported_some c.answer.result _ (λ answer e.
    reads_finished c.args.decoder.now c.finish.new.self _ _ c.finish.result.outcome answer (sym c.answer.ensures ∙ e)
    c.finish.ensures.some
    (at_end _ c.in-Ok.piece.now c.in-Ok.ensures.end (eqb-true (length c.in-Ok.piece.now) 0 (sym c.if-is_empty.ensures)))
    c.fill.follows.holds-at-none.0
    c.finish.ensures.represents c.finish.ensures.right c.finish.ensures.leaves c.finish.ensures.empties
    (same_finished _ _ _ c.finish.ensures.again) c.finish.ensures.memory c.finish.ensures.kept c.finish.ensures.limits)

pub returns-clause-stood : goal.returns-clause-stood
returns-clause-stood g c = reported_none c.answer-2.result _ (λ e. c.feed-step.ensures.some)

pub returns-clause-continues : goal.returns-clause-continues
returns-clause-continues g c = reported_none c.answer-2.result _ (λ e.
    let none = sym c.answer-2.ensures ∙ e in
    let all = c.feed-step.ensures.more (needs_more c.feed-step.result.outcome none) in
    feeds_called 1 c.args.decoder.now (g.R.Source.remaining c.args.reader.now) c.feed-step.result.outcome c.feed-step.new.self
    (g.R.Source.remaining c.consume.new.self)
    (take c.feed-step.result.used c.in-Ok.piece.now) none
    (omega (
      arith,
      all.0,
      length-take-le c.feed-step.result.used c.in-Ok.piece.now c.feed-step.ensures.used,
      eqb-false (length c.in-Ok.piece.now) 0 (sym c.if-is_empty.ensures),
    ))
    (consumes_taken _ _ _ c.in-Ok.piece.now c.feed-step.result.used c.fill.follows.holds-at-none.0 c.in-Ok.ensures.front
    c.feed-step.ensures.used c.consume.ensures.bytes)
    c.feed-step.ensures.represents c.feed-step.ensures.leaves (same_fed _ _ _ _ c.feed-step.ensures.again)
    (c.feed-step.ensures.input_ended ∙ c.requires.fresh) c.feed-step.ensures.kept c.feed-step.ensures.limits)

pub returns-clause-reads : goal.returns-clause-reads
returns-clause-reads g c = reported_some c.answer-2.result _ (λ answer e.
    reads_fed c.args.decoder.now c.feed-step.new.self _ _ c.in-Ok.piece.now c.feed-step.result.used c.feed-step.result.outcome
    answer (sym c.answer-2.ensures ∙ e)
    c.feed-step.ensures.some c.requires.fresh c.in-Ok.ensures.front c.feed-step.ensures.used
    (consumes_taken _ _ _ c.in-Ok.piece.now c.feed-step.result.used c.fill.follows.holds-at-none.0 c.in-Ok.ensures.front
    c.feed-step.ensures.used c.consume.ensures.bytes)
    c.feed-step.ensures.represents c.feed-step.ensures.right c.feed-step.ensures.leaves c.feed-step.ensures.empties
    (same_fed _ _ _ _ c.feed-step.ensures.again) c.feed-step.ensures.memory c.feed-step.ensures.input_ended
    c.feed-step.ensures.kept c.feed-step.ensures.limits)

pub returns-then-is_empty-clause-last : goal.returns-then-is_empty-clause-last
returns-then-is_empty-clause-last g c =
    reads_nothing _ _ c.args.last.now (Consumes-kept _ _ _ [] (Consumes-nil _) c.fill.follows.holds-at-none.0)

pub returns-clause-last : goal.returns-clause-last
returns-clause-last g c = record {
  bytes = take c.feed-step.result.used c.in-Ok.piece.now;
  consumed =
      consumes_taken _ _ _ c.in-Ok.piece.now c.feed-step.result.used c.fill.follows.holds-at-none.0 c.in-Ok.ensures.front
      c.feed-step.ensures.used c.consume.ensures.bytes;
  held = c.keep_last.ensures;
}
