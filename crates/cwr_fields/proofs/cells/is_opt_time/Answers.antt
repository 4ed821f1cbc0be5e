use Rattle.cwr_fields.proofs.lemmas.Blanks.{blank_then, blank_else}
use Rattle.cwr_fields.proofs.cells.is_opt_time.Goals as goal

pub returns-then-is_spaces : goal.returns-then-is_spaces
returns-then-is_spaces c = blank_then 6 c.args.cell.now _ c.requires c.is_spaces.ensures c.if-is_spaces.true

pub returns-else-is_spaces : goal.returns-else-is_spaces
returns-else-is_spaces c = blank_else 6 c.args.cell.now _ _ c.is_spaces.ensures c.if-is_spaces.false c.is_cell.ensures
