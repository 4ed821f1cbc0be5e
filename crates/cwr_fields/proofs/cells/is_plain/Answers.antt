use Rattle.std.proofs.Common.{ap, not, sym, ◌∙◌, arith}
use Rattle.cwr_fields.proofs.lemmas.Blanks.{plain_unless_control}
use Rattle.cwr_fields.proofs.cells.is_plain.Goals as goal

pub returns : goal.returns
returns c = ap not c.has_control.ensures ∙ sym (plain_unless_control c.args.cell.now (λ k. omega (arith, c.type_inv.cell k)))
