use Rattle.std.proofs.Common.{◌≡◌, not, arith}
use Rattle.std.proofs.lemmas.Grind.{common_steps}
use Rattle.cwr_fields.specs.Format.Bytes.{is_plain, has_control}
use Rattle.cwr_fields.proofs.lemmas.Blanks.{plain_unless_control}
use Rattle.cwr_fields.proofs.cells.fits_required.Goals as goal

pub returns-else-is_plain-clause-err : goal.returns-else-is_plain-clause-err
returns-else-is_plain-clause-err c =
    let plain : is_plain c.args.cell.now ≡ not (has_control c.args.cell.now) =
    plain_unless_control c.args.cell.now (λ k. omega (arith, c.type_inv.cell k)) in
    grind (arith, common_steps, plain)
