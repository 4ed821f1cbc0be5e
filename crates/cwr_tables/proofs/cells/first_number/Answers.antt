use Rattle.cwr_devices.proofs.lemmas.Adding.{adds_as}
use Rattle.cwr_tables.proofs.lemmas.PlainTexts.{number_cell}
use Rattle.cwr_tables.proofs.cells.first_number.Goals as goal

pub returns : goal.returns
returns g c = adds_as (number_cell c.args.number c.ranges.number.fits) c.number.ensures
