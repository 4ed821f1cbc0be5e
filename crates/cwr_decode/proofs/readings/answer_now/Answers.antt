use Rattle.std.proofs.Common.{take, [], sym, ◌∙◌, arith}
use Rattle.cwr_decode.proofs.lemmas.FromReader.{needs_more}
use Rattle.cwr_decode.proofs.lemmas.FedFromReader.{feeds_called, keeps_none, reads_settled, same_fed, reported_none, reported_some}
use Rattle.cwr_decode.proofs.readings.answer_now.Goals as goal

pub returns-clause-continues : goal.returns-clause-continues
returns-clause-continues c = reported_none c.answer.result _ (λ e left.
    let none = sym c.answer.ensures ∙ e in
    feeds_called 0 c.args.decoder.now left c.feed.result.outcome c.feed.new.self left (take c.feed.result.used []) none
    (omega arith) (keeps_none c.feed.result.used left)
    c.feed.ensures.represents c.feed.ensures.leaves (same_fed _ _ _ _ c.feed.ensures.again)
    (c.feed.ensures.input_ended ∙ (c.feed.ensures.more (needs_more c.feed.result.outcome none)).1) c.feed.ensures.kept
    c.feed.ensures.limits)

pub returns-clause-reads : goal.returns-clause-reads
returns-clause-reads c = reported_some c.answer.result _ (λ answer e.
    reads_settled c.args.decoder.now c.feed.new.self c.feed.result.used c.feed.result.outcome answer (sym c.answer.ensures ∙ e)
    c.feed.ensures.used
    c.feed.ensures.represents c.feed.ensures.right c.feed.ensures.leaves c.feed.ensures.empties
    (same_fed _ _ _ _ c.feed.ensures.again) c.feed.ensures.memory c.feed.ensures.input_ended c.feed.ensures.kept
    c.feed.ensures.limits c.feed.ensures.some)
