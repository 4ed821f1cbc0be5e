use Rattle.std.specs.Prelude.{take}
use Rattle.cwr_decode.proofs.lemmas.FromReader.{consumes_taken}
use Rattle.cwr_lint.proofs.lemmas.RawLines.{piece_read}
use Rattle.cwr_lint.proofs.raw_lines.RawLine.take_piece.Goals as goal

pub returns-clause-read : goal.returns-clause-read
returns-clause-read g c =
    piece_read _ _ _ c.args.self.now c.add_piece-count.new.self c.in-Ok.piece.now c.add_piece-count.result.0
    c.add_piece-count.result.1 c.fill.follows.holds-at-none.0 c.in-Ok.ensures.front c.in-Ok.ensures.end
    c.add_piece-count.ensures.within c.consume.ensures.bytes
    c.add_piece-count.ensures.added

pub returns-clause-taken : goal.returns-clause-taken
returns-clause-taken g c = (
  take c.add_piece-count.result.0 c.in-Ok.piece.now,
  consumes_taken _ _ _ c.in-Ok.piece.now c.add_piece-count.result.0 c.fill.follows.holds-at-none.0 c.in-Ok.ensures.front
      c.add_piece-count.ensures.within c.consume.ensures.bytes,
)
