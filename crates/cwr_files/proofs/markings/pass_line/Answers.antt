use Rattle.std.proofs.Common.{Bor, List, ℕ}
use Rattle.std.specs.Prelude.{option_map}
use Rattle.cwr_files.proofs.lemmas.Pieces.{passes_line, some_taken}
use Rattle.cwr_files.proofs.markings.pass_line.Goals as goal

pub returns-in-Ok-write_line-clause-passed : goal.returns-in-Ok-write_line-clause-passed
returns-in-Ok-write_line-clause-passed g c =
    let name = option_map {T = Bor (List ℕ)} {U = List ℕ} (λ n. n.now) c.args.marking.now.name in
    passes_line name c.args.marking.now.passing
    c.args.marking.now.part c.args.text.now c.in-Ok-write_line.count c.in-Ok-write_line.part c.after.result
    (g.W.Target.contents c.args.lines.now) (g.W.Target.contents c.put_front.new.lines) (g.W.Target.contents c.write_line.new.lines)
    c.after.ensures c.requires.some (some_taken c.args.text.now c.in-Ok-write_line.count c.requires.some c.in-Ok-write_line.ensures.some)
    c.requires.goes c.in-Ok-write_line.ensures.stands c.in-Ok.ensures.whole c.in-Ok-write_line.ensures.written
