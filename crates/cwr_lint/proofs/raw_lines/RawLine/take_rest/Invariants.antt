use Rattle.std.proofs.Common.{◌≡◌}
use Rattle.cwr_lint.proofs.lemmas.RawLines.{ReadsOpen}
use Rattle.cwr_lint.proofs.raw_lines.RawLine.take_rest.Given as goal

abbrev pub invariant-loop : goal.invariant-loop
invariant-loop g l =
    ReadsOpen (g.R.Source.remaining l.fn.reader) (g.R.Source.remaining l.reader) l.fn.self l.self l.counter
    × (g.R.Source.failures l.reader ≡ g.R.Source.failures l.fn.reader)
