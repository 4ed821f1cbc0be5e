use Rattle.std.proofs.Common.{Bor, List, ℕ, sym, true≢false}
use Rattle.std.specs.Prelude.{option_map}
use Rattle.cwr_files.proofs.lemmas.Pieces.{begins_marked}
use Rattle.cwr_files.proofs.file_lines.FileLines.new.Goals as goal

pub invariant_of-result : goal.invariant_of-result
invariant_of-result g c = record {
  counted = λ few. c.requires.failures;
  cut = λ e. absurd (true≢false (sym e));
  marked = λ e.
      begins_marked g.B.Unmarked.start (g.W.Target.contents c.args.lines) g.B.Unmarked.name
      (option_map {T = Bor (List ℕ)} {U = List ℕ} (λ n. n.now) c.args.name) g.B.Unmarked.passing c.args.passing c.new.result.text
      c.new.ensures c.requires.start c.requires.asked;
}
