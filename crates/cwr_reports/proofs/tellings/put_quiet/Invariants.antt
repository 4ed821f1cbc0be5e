use Rattle.std.proofs.Common.{Bor, List, ℕ}
use Rattle.std.specs.Prelude.{option_map}
use Rattle.cwr_files.specs.declared.markings.Passing.TheVariants.{All}
use Rattle.cwr_reports.proofs.tellings.put_quiet.Given as goal

abbrev pub ghosts-put_marked : goal.ghosts-put_marked
ghosts-put_marked g a = record {
  start = g.W.Target.contents a.lines;
  failures = g.W.Target.failures a.lines;
  name = option_map {T = Bor (List ℕ)} {U = List ℕ} (λ n. n.now) a.marks.name;
  passing = All;
}
