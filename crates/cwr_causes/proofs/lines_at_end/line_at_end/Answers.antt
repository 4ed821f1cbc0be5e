use Rattle.std.proofs.Common.{List, ℕ, sym, subst, ◌∙◌, arith}
use Rattle.cwr_causes.specs.Steps.LinesAtEnd.{IsAfterFeed}
use Rattle.cwr_causes.proofs.lemmas.LastLines.{found_ended, found_open}
use Rattle.cwr_causes.proofs.lines_at_end.line_at_end.Goals as goal
use Rattle.cwr_causes.proofs.lines_at_end.line_at_end.Goals.{then-ended, else-ended}

pub returns : goal.returns
returns c = λ read front line held ends.
    elim c.if-ended.branch [
      | then-ended w ↦ found_ended read front line c.without_feed-ended.result.0.now c.args.last.now _ held ends
          (sym c.as_slice.ensures ∙ c.without_feed-ended.ensures.ended w.if-ended.true) w.if-ended.true
          c.after_last_feed-bytes.ensures
          (omega (arith, c.saturating_sub-2.ensures, c.saturating_sub.ensures, c.read.ensures, w.feed-is))
      | else-ended w ↦ found_open read front line c.args.last.now _ held ends
          (λ xs e. c.without_feed-ended.ensures.other w.if-ended.false xs (c.as_slice.ensures ∙ e)) w.if-ended.false
          (subst (λ (l : List ℕ). IsAfterFeed l c.after_last_feed-bytes.result.now)
          (c.without_feed-ended.ensures.open w.if-ended.false ∙ c.as_slice.ensures) c.after_last_feed-bytes.ensures)
          (omega (arith, c.saturating_sub-2.ensures, c.saturating_sub.ensures, c.read.ensures, w.feed-is))
    ]
