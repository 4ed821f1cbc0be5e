use Rattle.std.proofs.Common.{◌∙◌, ap, refl, sym, arith}
use Rattle.cwr_lines.specs.Steps.Numbered.{numbered_as}
use Rattle.cwr_lines.proofs.lemmas.NumbersOfKinds.{line_width_least}
use Rattle.cwr_lines.proofs.lemmas.RenumberedLines.{set_in_front}
use Rattle.cwr_lines.proofs.renumbered_lines.set_all.Goals as goal

pub returns-in-Some : goal.returns-in-Some
returns-in-Some c =
    set_in_front c.in-Some.kind c.args.numbers.now c.args.line.now c.set_numbers.new.line _ c.width.result
    (omega (arith, c.width.ensures, line_width_least c.in-Some.kind)) c.set_numbers.ensures refl
    ∙ ap (λ o. numbered_as o c.args.numbers.now c.args.line.now) (sym c.in-Some.is)
