use Rattle.cwr_values.proofs.lemmas.FitsIsWithin.{no_fault}
use Rattle.cwr_values.proofs.laws.fits_is_within.Goals as goal

pub returns : goal.returns
returns c = no_fault
