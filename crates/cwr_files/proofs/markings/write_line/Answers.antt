use Rattle.std.proofs.Common.{◌≤◌, take, sym, subst, arith}
use Rattle.std.proofs.lemmas.List.{length-take}
use Rattle.cwr_files.specs.declared.markings.LinePart.{LinePart}
use Rattle.cwr_files.specs.declared.markings.LinePart.TheVariants.{Passed}
use Rattle.cwr_files.specs.Steps.Markings.{StandsIn}
use Rattle.cwr_files.proofs.lemmas.Pieces.{stands}
use Rattle.cwr_files.proofs.markings.write_line.Goals as goal

pub returns-in-Ok-clause-stands : goal.returns-in-Ok-clause-stands
returns-in-Ok-clause-stands g c =
    let few : c.in-Ok.count ≤ c.first_line-most.result.0 =
    omega (arith, c.in-Ok.ensures.bound, length-take c.first_line-most.result.0 c.args.text.now) in
    subst (λ (q : LinePart). StandsIn Passed (take c.in-Ok.count c.args.text.now) q) (sym c.part_behind.ensures)
    (stands Passed c.args.text.now c.first_line-most.result.0 c.in-Ok.count c.first_line-most.result.1 c.first_line-most.ensures few)
