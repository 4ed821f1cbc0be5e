use Rattle.cwr_lint.proofs.lemmas.RawLines.{piece_ended}
use Rattle.cwr_lint.proofs.raw_lines.RawLine.add_piece.Goals as goal

pub returns-in-Some-clause-added : goal.returns-in-Some-clause-added
returns-in-Some-clause-added c =
    piece_ended c.args.self.now c.add.new.self c.end.new.self c.args.piece.now c.in-Some.at c.in-Some.ensures.0
    c.in-Some.ensures.1 c.in-Some.ensures.2 c.add.ensures.held c.end.ensures.held c.end.ensures.ended
