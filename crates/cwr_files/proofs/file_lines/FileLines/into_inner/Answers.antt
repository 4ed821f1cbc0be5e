use Rattle.std.proofs.Common.{Bor, List, ℕ}
use Rattle.std.specs.Prelude.{option_map}
use Rattle.cwr_files.proofs.lemmas.Pieces.{marked_whole, uncut}
use Rattle.cwr_files.proofs.file_lines.FileLines.into_inner.Goals as goal

pub returns-clause-marked : goal.returns-clause-marked
returns-clause-marked g c = λ same few.
    let it = c.args.self in
    marked_whole g.B.Unmarked.start (g.W.Target.contents it.lines) g.B.Unmarked.name g.B.Unmarked.passing it.taken.text
    (option_map {T = Bor (List ℕ)} {U = List ℕ} (λ n. n.now) it.marking.name) it.marking.passing it.marking.part
    (it.marked (uncut it.marking.part g.B.Unmarked.failures (g.W.Target.failures it.lines) it.cut same few))
