use Rattle.std.proofs.Common.{Bor, List, ℕ}
use Rattle.std.specs.Prelude.{option_map}
use Rattle.cwr_files.proofs.lemmas.Pieces.{passes_over, some_taken}
use Rattle.cwr_files.proofs.markings.pass_over.Goals as goal

pub returns-in-Ok-clause-passed : goal.returns-in-Ok-clause-passed
returns-in-Ok-clause-passed g c =
    passes_over (option_map {T = Bor (List ℕ)} {U = List ℕ} (λ n. n.now) c.args.marking.now.name) c.args.marking.now.passing
    c.args.marking.now.part c.args.text.now c.in-Ok.count c.in-Ok.part (g.W.Target.contents c.args.lines.now)
    (g.W.Target.contents c.leave_out.new.lines) c.requires.some (some_taken c.args.text.now c.in-Ok.count c.requires.some c.in-Ok.ensures.some)
    c.requires.goes c.in-Ok.ensures.stands c.in-Ok.ensures.kept
