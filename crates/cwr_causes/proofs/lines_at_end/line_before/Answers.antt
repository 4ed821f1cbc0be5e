use Rattle.cwr_causes.proofs.lemmas.LastLines.{before_found, before_untold, where_none, where_some}
use Rattle.cwr_causes.proofs.lines_at_end.line_before.Goals as goal

pub returns-clause-told : goal.returns-clause-told
returns-clause-told c = λ read front line held ends.
    before_found (λ b. b.now) c.last_of_lines.result read front line c.as_slice.result.now c.without_feed.result.0.now
    c.last_line.result.0.now c.last_line.result.1.now c.args.last.now c.without_feed.result.1 c.is_whole.result
    held ends c.as_slice.ensures c.without_feed.ensures.ended c.without_feed.ensures.open c.without_feed.ensures.other
    c.last_line.ensures (λ e. c.is_whole.ensures.whole e read held) (where_some _ _ c.last_of_lines.result c.last_of_lines.ensures)

pub returns-clause-untold : goal.returns-clause-untold
returns-clause-untold c = λ read front line shown held ends split few none.
    before_untold read front line shown c.as_slice.result.now c.without_feed.result.0.now
    c.last_line.result.0.now c.last_line.result.1.now c.args.last.now c.without_feed.result.1 c.is_whole.result
    held ends split c.as_slice.ensures c.without_feed.ensures.ended c.without_feed.ensures.open c.without_feed.ensures.other
    c.last_line.ensures (λ e. c.is_whole.ensures.part e read held few) (where_none _ _ c.last_of_lines.result c.last_of_lines.ensures none)
