use Rattle.std.proofs.Common.{Bool, Some, ap, subst, ◌∙◌}
use Rattle.cwr_write.specs.Steps.Lines.{TakesPart}
use Rattle.cwr_write.proofs.lemmas.LinesTaken.{exceeds_more, line_ended, so_far_more}
use Rattle.cwr_write.proofs.lemmas.FaultsPassed.{passed_on}
use Rattle.cwr_write.proofs.input_lines.next_line.Goals as goal

pub returns-in-Some-true-clause-taken : goal.returns-in-Some-true-clause-taken
returns-in-Some-true-clause-taken g c =
    line_ended (g.R.Source.remaining c.args.reader.now) (g.R.Source.remaining c.loop.reader)
    (g.R.Source.remaining c.take_piece.new.reader) c.loop.line.items c.take_piece.new.line.items c.loop.invariant.so_far
    (subst (TakesPart (g.R.Source.remaining c.loop.reader) (g.R.Source.remaining c.take_piece.new.reader) c.loop.line.items
    c.take_piece.new.line.items) (c.in-Some-true.is ∙ ap (λ (b : Bool). Some b)
    c.in-Some-true.field-0-test) c.in_ok-take_piece.ensures.taken)

pub loop-preserved : goal.loop-preserved
loop-preserved g c = record {
  failures = c.in_ok-take_piece.ensures.failures ∙ c.loop.invariant.failures;
  short = c.in_ok-take_piece.ensures.short;
  so_far =
      so_far_more (g.R.Source.remaining c.args.reader.now) (g.R.Source.remaining c.loop.reader)
      (g.R.Source.remaining c.take_piece.new.reader) c.loop.line.items c.take_piece.new.line.items c.loop.invariant.so_far
      (subst (TakesPart (g.R.Source.remaining c.loop.reader) (g.R.Source.remaining c.take_piece.new.reader) c.loop.line.items
      c.take_piece.new.line.items) (c.in-Some-false.is ∙ ap (λ (b : Bool). Some b)
      c.in-Some-false.field-0-test) c.in_ok-take_piece.ensures.taken);
}

pub returns-in_err-take_piece-clause-long : goal.returns-in_err-take_piece-clause-long
returns-in_err-take_piece-clause-long g c =
    passed_on c.from_residual.result c.in_err-take_piece.field-0.0 _ c.from_residual.ensures.1
    (λ long. exceeds_more c.args.most (g.R.Source.remaining c.args.reader.now) (g.R.Source.remaining c.loop.reader)
    c.loop.line.items c.loop.invariant.so_far (c.in_err-take_piece.ensures.long long))
