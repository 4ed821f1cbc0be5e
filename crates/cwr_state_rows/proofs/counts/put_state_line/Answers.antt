use Rattle.std.proofs.Common.{rules}
use Rattle.cwr_devices.proofs.lemmas.Adding.{puts_added}
use Rattle.cwr_state_rows.proofs.counts.put_state_line.Goals as goal

pub returns : goal.returns
returns g c = puts_added (search rules) (search rules) c.state_line.ensures (search rules)
