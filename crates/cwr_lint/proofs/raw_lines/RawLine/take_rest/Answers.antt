use Rattle.std.proofs.Common.{refl, ap, subst, ◌∙◌, arith}
use Rattle.cwr_devices.specs.Format.Failures.{one_more_failure}
use Rattle.cwr_causes.proofs.lemmas.TakenPieces.{takes_both}
use Rattle.cwr_lint.specs.Steps.LinesRead.{ReadsPiece}
use Rattle.cwr_lint.proofs.lemmas.RawLines.{open_first, open_last, open_many, open_more, open_taken}
use Rattle.cwr_lint.proofs.raw_lines.RawLine.take_rest.Goals as goal

pub loop-init : goal.loop-init
loop-init g c = (open_first (g.R.Source.remaining c.args.reader.now) c.args.self.now c.requires, refl)

pub take_piece-requires : goal.take_piece-requires
take_piece-requires g c = c.loop.invariant.0.unended

pub returns-in-Err-clause-taken : goal.returns-in-Err-clause-taken
returns-in-Err-clause-taken g c =
    takes_both (g.R.Source.remaining c.args.reader.now) (g.R.Source.remaining c.loop.reader)
    (g.R.Source.remaining c.take_piece.new.reader) (open_taken _ _ _ _ _ c.loop.invariant.0) c.in-Err.ensures.taken

pub returns-in-Err-clause-failures : goal.returns-in-Err-clause-failures
returns-in-Err-clause-failures g c = c.in-Err.ensures.failures ∙ ap one_more_failure c.loop.invariant.1

pub loop-preserved : goal.loop-preserved
loop-preserved g c = (
  open_more (g.R.Source.remaining c.args.reader.now) (g.R.Source.remaining c.loop.reader)
      (g.R.Source.remaining c.take_piece.new.reader) c.args.self.now c.loop.self c.take_piece.new.self c.loop.counter
      c.loop.invariant.0
      (subst (ReadsPiece (g.R.Source.remaining c.loop.reader) (g.R.Source.remaining c.take_piece.new.reader) c.loop.self
      c.take_piece.new.self) c.in-Ok-false.field-0-test c.in-Ok-false.ensures.read),
  c.in-Ok-false.ensures.failures ∙ c.loop.invariant.1,
)

pub returns-after-loop-clause-read : goal.returns-after-loop-clause-read
returns-after-loop-clause-read g c =
    open_many (g.R.Source.remaining c.args.reader.now) (g.R.Source.remaining c.loop.reader) c.args.self.now c.loop.self
    c.loop.counter (omega (arith, c.loop-test.false)) c.loop.invariant.0

pub returns-after-loop-clause-taken : goal.returns-after-loop-clause-taken
returns-after-loop-clause-taken g c = open_taken _ _ _ _ _ c.loop.invariant.0

pub returns-after-loop-clause-failures : goal.returns-after-loop-clause-failures
returns-after-loop-clause-failures g c = c.loop.invariant.1

pub returns-in-Ok-true-clause-read : goal.returns-in-Ok-true-clause-read
returns-in-Ok-true-clause-read g c =
    open_last (g.R.Source.remaining c.args.reader.now) (g.R.Source.remaining c.loop.reader)
    (g.R.Source.remaining c.take_piece.new.reader) c.args.self.now c.loop.self c.take_piece.new.self c.loop.counter
    c.loop.invariant.0
    (subst (ReadsPiece (g.R.Source.remaining c.loop.reader) (g.R.Source.remaining c.take_piece.new.reader) c.loop.self
    c.take_piece.new.self) c.in-Ok-true.field-0-test c.in-Ok-true.ensures.read)

pub returns-in-Ok-true-clause-taken : goal.returns-in-Ok-true-clause-taken
returns-in-Ok-true-clause-taken g c =
    takes_both (g.R.Source.remaining c.args.reader.now) (g.R.Source.remaining c.loop.reader)
    (g.R.Source.remaining c.take_piece.new.reader) (open_taken _ _ _ _ _ c.loop.invariant.0) c.in-Ok-true.ensures.taken

pub returns-in-Ok-true-clause-failures : goal.returns-in-Ok-true-clause-failures
returns-in-Ok-true-clause-failures g c = c.in-Ok-true.ensures.failures ∙ c.loop.invariant.1
