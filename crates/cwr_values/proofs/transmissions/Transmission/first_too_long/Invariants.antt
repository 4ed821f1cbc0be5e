use Rattle.std.proofs.Common.{◌≡◌, drop}
use Rattle.cwr_values.specs.Format.Fits.{first_too_long}
use Rattle.cwr_values.proofs.lemmas.FitsIsWithin.{too_long_from}
use Rattle.cwr_values.proofs.transmissions.Transmission.first_too_long.Given as goal

abbrev pub invariant-loop-group : goal.invariant-loop-group
invariant-loop-group l = too_long_from l.limit l.group (drop l.group l.kept-items) ≡ first_too_long l.limit l.self
