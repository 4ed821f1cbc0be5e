use Rattle.std.proofs.Common.{[]}
use Rattle.cwr_lint.proofs.raw_lines.RawLine.of_bytes.Goals as goal

pub returns-then-ended-clause-held : goal.returns-then-ended-clause-held
returns-then-ended-clause-held c = c.end.ensures.held c.args.bytes.now (c.add.ensures.held [] c.requires c.begin.ensures.held)

pub returns-else-ended-clause-held : goal.returns-else-ended-clause-held
returns-else-ended-clause-held c = c.add.ensures.held [] c.requires c.begin.ensures.held
