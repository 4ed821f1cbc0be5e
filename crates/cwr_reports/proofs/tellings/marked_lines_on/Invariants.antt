use Rattle.std.proofs.Common.{Bor, List, ℕ}
use Rattle.std.specs.Prelude.{option_map}
use Rattle.cwr_reports.proofs.tellings.marked_lines_on.Given as goal

abbrev pub ghosts-write_marked : goal.ghosts-write_marked
ghosts-write_marked g a = record {
  start = g.W.Target.contents a.lines;
  failures = g.W.Target.failures a.lines;
  name = option_map {T = Bor (List ℕ)} {U = List ℕ} (λ n. n.now) a.marks.name;
  passing = a.marks.passing;
}
