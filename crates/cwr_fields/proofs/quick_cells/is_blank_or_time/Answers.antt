use Rattle.std.proofs.Common.{sym, ◌∙◌}
use Rattle.cwr_fields.proofs.lemmas.QuickTexts.{blank_holds}
use Rattle.cwr_fields.proofs.quick_cells.is_blank_or_time.Goals as goal

pub returns-then-is_spaces : goal.returns-then-is_spaces
returns-then-is_spaces c = λ yes. blank_holds 6 c.args.cell.now c.requires.width (sym c.is_spaces.ensures ∙ c.if-is_spaces.true)
