use Rattle.std.proofs.Common.{◌+◌, length, refl, subst}
use Rattle.cwr_fields.specs.Format.Growth.{Outgrows}
use Rattle.cwr_values.specs.Format.Values.{TransmissionValue}
use Rattle.cwr_values.proofs.transmissions.Transmission.push.Goals as goal

pub make_room-requires-clause-power : goal.make_room-requires-clause-power
make_room-requires-clause-power c = (2, refl)

pub returns-in-Err-clause-memory : goal.returns-in-Err-clause-memory
returns-in-Err-clause-memory c = λ e.
    subst (λ (v : TransmissionValue). Outgrows 4 (length v.groups) (length v.groups + 1)) c.self.view_is c.in-Err.ensures.asks
