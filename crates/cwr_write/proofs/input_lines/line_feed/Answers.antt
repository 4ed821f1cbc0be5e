use Rattle.cwr_lines.proofs.lemmas.LineFeedFound.{first_line_feed}
use Rattle.cwr_write.proofs.input_lines.line_feed.Goals as goal

pub returns : goal.returns
returns c = first_line_feed c.args.piece.now c.memchr.result c.memchr.ensures
