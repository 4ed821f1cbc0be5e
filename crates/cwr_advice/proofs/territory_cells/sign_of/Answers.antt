use Rattle.std.proofs.Common.{sym, ◌∙◌}
use Rattle.cwr_advice.proofs.lemmas.TerritoryFields.{sign_of_publisher, sign_of_writer}
use Rattle.cwr_advice.proofs.territory_cells.sign_of.Goals as goal

pub returns-then-is_of : goal.returns-then-is_of
returns-then-is_of c =
    sign_of_publisher c.args.shown.now c.cell.result.now c.cell.ensures.value (sym c.is_of.ensures ∙ c.if-is_of.true)
    c.cell.ensures.fits

pub returns-else-is_of : goal.returns-else-is_of
returns-else-is_of c =
    sign_of_writer c.args.shown.now c.cell-else-is_of.result.now c.cell-else-is_of.ensures.value c.requires
    (sym c.is_of.ensures ∙ c.if-is_of.false) c.cell-else-is_of.ensures.fits
