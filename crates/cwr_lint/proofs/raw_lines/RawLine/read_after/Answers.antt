use Rattle.cwr_lint.proofs.lemmas.RawLines.{reads_ended, reads_open}
use Rattle.cwr_lint.proofs.raw_lines.RawLine.read_after.Goals as goal

pub returns-then-self-clause-read : goal.returns-then-self-clause-read
returns-then-self-clause-read g c =
    reads_ended (g.R.Source.remaining c.args.reader.now) (g.R.Source.remaining c.take_rest.new.reader) c.begin.new.self
    c.take_rest.new.self c.take_rest.new.self.ended c.if-self.true c.if-self.true c.begin.ensures.held c.in-Ok.ensures.read

pub returns-else-self-clause-read : goal.returns-else-self-clause-read
returns-else-self-clause-read g c =
    reads_open (g.R.Source.remaining c.args.reader.now) (g.R.Source.remaining c.take_rest.new.reader) c.begin.new.self
    c.take_rest.new.self c.is_empty.result c.if-self.false c.is_empty.ensures c.begin.ensures.held c.in-Ok.ensures.read
