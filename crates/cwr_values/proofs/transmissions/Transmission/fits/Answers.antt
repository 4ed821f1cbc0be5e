use Rattle.cwr_values.proofs.lemmas.FitsIsWithin.{reported, none_reported, whole}
use Rattle.cwr_values.proofs.transmissions.Transmission.fits.Goals as goal

pub returns-in-Some-clause-within : goal.returns-in-Some-clause-within
returns-in-Some-clause-within c =
    reported c.args.limits c.args.self.now c.value_fault.result c.in-Some.fault c.value_fault.ensures.value c.in-Some.is

pub returns-in-None-clause-within : goal.returns-in-None-clause-within
returns-in-None-clause-within c =
    none_reported c.args.limits c.args.self.now c.value_fault.result c.value_fault.ensures.value c.in-None.is

pub returns-in-None-clause-in_order : goal.returns-in-None-clause-in_order
returns-in-None-clause-in_order c =
    whole c.args.limits c.args.self.now c.value_fault.result c.value_fault.ensures.value c.in-None.is c.value_fault.ensures.begun
