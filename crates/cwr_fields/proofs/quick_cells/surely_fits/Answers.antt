use Rattle.std.proofs.Common.{ap}
use Rattle.cwr_fields.specs.Format.Cells.{type_width}
use Rattle.cwr_fields.proofs.quick_cells.surely_fits.Goals as goal

pub is_code-requires : goal.is_code-requires
is_code-requires c = c.requires.width _ (ap type_width c.in-Code.is)

pub is_opt_code-requires : goal.is_opt_code-requires
is_opt_code-requires c = c.requires.width _ (ap type_width c.in-OptCode.is)

pub is_surely_date-requires : goal.is_surely_date-requires
is_surely_date-requires c = c.requires.width 8 (ap type_width c.in-OptDate.is)

pub is_blank_or_time-requires-clause-width : goal.is_blank_or_time-requires-clause-width
is_blank_or_time-requires-clause-width c = c.requires.width 6 (ap type_width c.in-OptTime.is)

pub is_blank_or_time-requires-in-OptDuration-clause-width : goal.is_blank_or_time-requires-in-OptDuration-clause-width
is_blank_or_time-requires-in-OptDuration-clause-width c = c.requires.width 6 (ap type_width c.in-OptDuration.is)
