use Rattle.std.proofs.Common.{ap}
use Rattle.cwr_fields.specs.Format.Cells.{type_width}
use Rattle.cwr_fields.proofs.cells.fits.Goals as goal

pub is_cell-requires-clause-width : goal.is_cell-requires-clause-width
is_cell-requires-clause-width c = c.requires 8 (ap type_width c.in-Date.is)

pub is_cell-requires-in-OptDate-clause-width : goal.is_cell-requires-in-OptDate-clause-width
is_cell-requires-in-OptDate-clause-width c = c.requires 8 (ap type_width c.in-OptDate.is)

pub is_cell-requires-in-Time-clause-width : goal.is_cell-requires-in-Time-clause-width
is_cell-requires-in-Time-clause-width c = c.requires 6 (ap type_width c.in-Time.is)

pub is_opt_time-requires : goal.is_opt_time-requires
is_opt_time-requires c = c.requires 6 (ap type_width c.in-OptTime.is)

pub is_cell-requires-in-OptDuration-clause-width : goal.is_cell-requires-in-OptDuration-clause-width
is_cell-requires-in-OptDuration-clause-width c = c.requires 6 (ap type_width c.in-OptDuration.is)

pub fits_share-requires : goal.fits_share-requires
fits_share-requires c = c.requires 5 (ap type_width c.in-Share.is)

pub is_cell-requires-in-Flag-clause-width : goal.is_cell-requires-in-Flag-clause-width
is_cell-requires-in-Flag-clause-width c = c.requires 1 (ap type_width c.in-Flag.is)

pub is_code-requires : goal.is_code-requires
is_code-requires c = c.requires _ (ap type_width c.in-Code.is)

pub is_opt_code-requires : goal.is_opt_code-requires
is_opt_code-requires c = c.requires _ (ap type_width c.in-OptCode.is)
