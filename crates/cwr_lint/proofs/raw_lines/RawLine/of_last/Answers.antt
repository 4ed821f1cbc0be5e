use Rattle.std.proofs.Common.{◌∙◌, sym}
use Rattle.cwr_lint.proofs.lemmas.LastRead.{last_ended, last_open, some_line}
use Rattle.cwr_lint.proofs.raw_lines.RawLine.of_last.Goals as goal

pub returns-then-line-clause-read : goal.returns-then-line-clause-read
returns-then-line-clause-read g c =
    let feed = c.ends_with_feed.ensures.ended (sym c.of_bytes-line.ensures.ended ∙ c.if-line.true) in
    last_ended (g.R.Source.remaining c.args.reader.now) c.args.last.now c.before_feed.result.now c.line_at_end-found.result
    c.of_bytes-line.result c.if-line.true (feed.0, sym c.as_slice.ensures ∙ feed.1) c.line_at_end-found.ensures
    c.before_feed.ensures.same c.of_bytes-line.ensures.held

pub returns-in-Ok-clause-read : goal.returns-in-Ok-clause-read
returns-in-Ok-clause-read g c =
    last_open (g.R.Source.remaining c.args.reader.now) (g.R.Source.remaining c.take_rest.new.reader) c.args.last.now
    c.before_feed.result.now c.line_at_end-found.result c.of_bytes-line.result c.take_rest.new.self
    (λ text e. c.ends_with_feed.ensures.still_open (sym c.of_bytes-line.ensures.ended ∙ c.if-line.false) text (c.as_slice.ensures
    ∙ e)) c.line_at_end-found.ensures c.before_feed.ensures.same c.of_bytes-line.ensures.held c.in-Ok.ensures.read

pub returns-in-Ok-clause-held : goal.returns-in-Ok-clause-held
returns-in-Ok-clause-held g c =
    some_line (g.R.Source.remaining c.args.reader.now) (g.R.Source.remaining c.take_rest.new.reader) c.before_feed.result.now
    c.of_bytes-line.result c.take_rest.new.self c.of_bytes-line.ensures.held c.in-Ok.ensures.read
