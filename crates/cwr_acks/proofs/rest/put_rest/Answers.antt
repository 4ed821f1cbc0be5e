use Rattle.std.proofs.Common.{rules}
use Rattle.cwr_devices.proofs.lemmas.Adding.{puts_added}
use Rattle.cwr_acks.proofs.rest.put_rest.Goals as goal

pub returns : goal.returns
returns g c = puts_added (search rules) (search rules) c.end_at.ensures (search rules)
